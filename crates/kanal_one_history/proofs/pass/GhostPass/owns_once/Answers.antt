use Rattle.kanal_one_history.proofs.Common.{subst, AreDisjoint}
use Rattle.kanal_one_history.proofs.pass.GhostPass.owns_once.Goals as goal

pub returns-clause-apart : goal.returns-clause-apart
returns-clause-apart g c =
    let first : AreDisjoint c.args.self.now.own c.other.inside.reader.own = subst (λ k. AreDisjoint k.own c.other.inside.reader.own) c.self.view_is c.compare.ensures.apart in
    subst (λ k. AreDisjoint c.args.self.now.own k.own) c.other.view_is first
