use Rattle.std.proofs.Common.{subst}
use Rattle.kanal_channel.specs.Answers.{Answers}
use Rattle.kanal_futures.proofs.answer.TaskAnswer.apart.Goals as goal

pub returns-clause-made : goal.returns-clause-made
returns-clause-made g c =
    let a = g.A.Operation in
    subst (λ v. Answers g.H.History.relations (a.event v.1) a.read a.ended v.0 c.self.inside.pass c.self.inside.answer) c.self.view_is c.self.invariant
