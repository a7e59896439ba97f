use Rattle.std.proofs.Common.{◌≡◌, None, true}
use Rattle.std.specs.Prelude.{is_some}
use Rattle.std.specs.Option.{IfSome}
use Rattle.futures.specs.Task.{Keeps}
use Rattle.kanal.specs.Sends.{Behind, SendsSome, StillGives}
use Rattle.kanal_futures.specs.Futures.{call_begun}
use Rattle.kanal.proofs.send_all.send_each.Given as goal

-- a beginning was sent so far
abbrev pub invariant-loop : goal.invariant-loop
invariant-loop g l =
    SendsSome g.H.History.relations (call_begun l.initial.call) l.initial.idle (Behind l.initial.ready.queue.items (StillGives g.S.Stream.yields l.initial.stream)) (call_begun l.call) l.idle
    (Behind l.ready.queue.items (StillGives g.S.Stream.yields l.stream))
    × (is_some l.idle ≡ true → call_begun l.call ≡ None)
    × IfSome l.stream g.S.Stream.can_poll
    × Keeps l.initial.cx l.cx
