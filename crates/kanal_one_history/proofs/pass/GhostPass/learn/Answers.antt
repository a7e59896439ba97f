use Rattle.kanal_one_history.proofs.Common.{◌<◌, rules, subst, sym, both-has}
use Rattle.kanal_one_history.proofs.pass.GhostPass.learn.Goals as goal

pub invariant_of-self : goal.invariant_of-self
invariant_of-self g c =
    let has : 0 < c.learn.new.self.share.count = subst (λ s. 0 < s.count) (sym c.learn.ensures.share) (both-has c.other.inside.reader.share c.self.inside.reader.share c.self.invariant.1) in
    (search rules, has)
