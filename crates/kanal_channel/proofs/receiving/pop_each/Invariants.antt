use Rattle.kanal_channel.proofs.Common.{◌≡◌}
use Rattle.std.specs.Prelude.{◌-◌}
use Rattle.std.specs.VecDeque.{deque_capacity, deque_len}
use Rattle.kanal_state.specs.Frames.{OnlyLineMoves}
use Rattle.kanal_channel.specs.Batches.{ReceivesThese}
use Rattle.kanal_channel.proofs.receiving.pop_each.Given as goal

-- what was taken so far was received
abbrev pub invariant-loop-state : goal.invariant-loop-state
invariant-loop-state g l =
    record {
      received : ReceivesThese g.H.History.relations l.initial.pass l.into.items l.pass;
      rest : OnlyLineMoves l.initial.state l.state;
      room : deque_capacity l.into ≡ deque_capacity l.initial.into;
    }

abbrev pub decreases-loop-state : goal.decreases-loop-state
decreases-loop-state g l = l.most - deque_len l.into
