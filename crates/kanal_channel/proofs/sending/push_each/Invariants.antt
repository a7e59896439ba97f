use Rattle.std.specs.Prelude.{◌+◌, ◌∷◌, length}
use Rattle.std.specs.Option.{option_to_list}
use Rattle.std.specs.VecDeque.{deque_len}
use Rattle.kanal_state.specs.Frames.{OnlyLineMoves}
use Rattle.kanal_channel.specs.Batches.{SendsFront}
use Rattle.kanal_channel.proofs.sending.push_each.Given as goal

-- a beginning was sent, and the next message and those behind it are left
abbrev pub invariant-loop-next : goal.invariant-loop-next
invariant-loop-next g l =
    record {
      sent : SendsFront g.H.History.relations l.initial.pass l.pass (l.fn.message ∷ l.initial.behind.items) l.next l.behind.items;
      rest : OnlyLineMoves l.initial.state l.state;
    }

abbrev pub decreases-loop-next : goal.decreases-loop-next
decreases-loop-next g l = length (option_to_list l.next) + deque_len l.behind
