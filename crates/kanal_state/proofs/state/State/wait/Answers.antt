use Rattle.kanal_state.proofs.Common.{subst, Keeps, replied, HasReplied}
use Rattle.kanal_state.proofs.Settling.{kept_replied}
use Rattle.kanal_state.proofs.state.State.wait.Goals as goal

pub returns-clause-started : goal.returns-clause-started
returns-clause-started g c =
    let w = g.H.History.relations in
    let reply = c.wait-reply.result.0 in
    let clear = subst (λ kept. Keeps reply kept) c.in-Back.is c.wait-reply.ensures.kept in
    let asked = c.of-asked.result.value in
    let there = kept_replied w c.args.pass.now c.note.new.pass asked (replied asked reply) c.note.ensures.kept clear in
    subst (λ event. HasReplied w c.args.pass.now c.note.new.pass event reply) c.of-asked.ensures there
