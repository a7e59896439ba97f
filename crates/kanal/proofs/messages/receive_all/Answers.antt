use Rattle.std.proofs.Common.{of_calls, Err, [], ◌∷◌, refl, subst}
use Rattle.kanal_state.specs.Handles.{Receives}
use Rattle.kanal.proofs.messages.receive_all.Goals as goal

pub loop-init : goal.loop-init
loop-init g c = (λ callable. callable, ([], (refl, refl)))

pub loop-preserved : goal.loop-preserved
loop-preserved g c =
    let relations = g.H.History.relations in
    let earlier = c.loop.invariant.1 in
    let got = subst (Receives relations c.loop.pass c.recv.new.pass) c.in-Ok.is c.recv.ensures.received in (
      λ callable. let before = c.loop.invariant.0 callable in search of_calls,
      (c.in-Ok.message ∷ earlier.0, (c.loop.pass, c.loop.call, earlier.1, got, record { met = c.call.ensures.met })),
    )

pub returns-in-Err-SendClosed-clause-received : goal.returns-in-Err-SendClosed-clause-received
returns-in-Err-SendClosed-clause-received g c =
    let relations = g.H.History.relations in
    let earlier = c.loop.invariant.1 in
    let ended = c.in-Err-SendClosed in
    let refused = subst (Receives relations c.loop.pass c.recv.new.pass) ended.is c.recv.ensures.received in
    (earlier.0, c.loop.pass, c.loop.call, earlier.1, subst (λ e. Receives relations c.loop.pass c.recv.new.pass (Err e)) ended.field-0-is refused)
