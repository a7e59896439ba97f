use Rattle.kanal_one_history.proofs.Common.{ap, ◌∙◌, both, both-nothing}
use Rattle.kanal_one_history.proofs.pass.Prefix.teach.Goals as goal

pub returns-clause-share : goal.returns-clause-share
returns-clause-share g c =
    let had = c.pass.inside.reader.share in
    c.learn.ensures.share ∙ (ap (λ s. both s had) c.self.invariant.2 ∙ (both-nothing had ∙ ap (λ k. k.share) c.pass.view_is))
