use Rattle.std.proofs.Common.{Ok, Err, subst}
use Rattle.kanal_state.specs.Handles.{Receives}
use Rattle.kanal_futures.proofs.stream.ReceiveStream.take.Goals as goal

pub returns-in-Ok-clause-received : goal.returns-in-Ok-clause-received
returns-in-Ok-clause-received g c =
    let w = g.H.History.relations in
    let told = c.into_parts-pass.ensures in
    let parts = c.into_parts-pass.result in
    subst (λ pass. Receives w c.args.received.0 pass (Ok c.in-Ok.message)) told.pass (subst (λ answer. Receives w c.args.received.0 parts.0 answer) c.in-Ok.is told.received)

pub returns-in-Err-clause-refused : goal.returns-in-Err-clause-refused
returns-in-Err-clause-refused g c =
    let w = g.H.History.relations in
    let told = c.into_parts-pass.ensures in
    let parts = c.into_parts-pass.result in
    subst (λ pass. Receives w c.args.received.0 pass (Err c.in-Err.error)) told.pass (subst (λ answer. Receives w c.args.received.0 parts.0 answer) c.in-Err.is told.received)
