use Rattle.std.specs.Option.{IfSome}
use Rattle.std.specs.Prelude.{◌-◌}
use Rattle.std.specs.VecDeque.{deque_len}
use Rattle.futures.specs.Runs.{Within}
use Rattle.futures.specs.Task.{Keeps}
use Rattle.kanal.specs.Sends.{Behind, StillGives}
use Rattle.kanal.proofs.send_all.look_ahead.Given as goal

-- what may come from here on may come from the beginning on
abbrev pub invariant-loop-stream : goal.invariant-loop-stream
invariant-loop-stream g l =
    Within (Behind l.initial.ready.queue.items (StillGives g.S.Stream.yields l.initial.stream)) (Behind l.ready.queue.items (StillGives g.S.Stream.yields l.stream))
    × IfSome l.stream g.S.Stream.can_poll × Keeps l.initial.cx l.cx

abbrev pub decreases-loop-stream : goal.decreases-loop-stream
decreases-loop-stream g l = l.most - deque_len l.ready.queue
