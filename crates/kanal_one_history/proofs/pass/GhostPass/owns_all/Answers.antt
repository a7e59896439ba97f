use Rattle.kanal_one_history.proofs.Common.{subst, OwnsAllBut, MovesNoMessage}
use Rattle.kanal_one_history.proofs.pass.GhostPass.owns_all.Goals as goal

pub returns-clause-each : goal.returns-clause-each
returns-clause-each g c = subst (λ k. OwnsAllBut (λ call. MovesNoMessage call.event) k.log k.own) c.self.view_is c.owns_all.ensures.each
