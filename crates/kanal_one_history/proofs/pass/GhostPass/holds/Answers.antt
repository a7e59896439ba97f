use Rattle.kanal_one_history.proofs.Common.{subst, IsLegal}
use Rattle.kanal_one_history.proofs.Accounts.{leads_as_told}
use Rattle.kanal_one_history.proofs.Firsts.{waits_come_first}
use Rattle.kanal_one_history.proofs.Pairing.{legal_paired_at}
use Rattle.kanal_one_history.proofs.Waits.{each_ends_once, waits_as_settled}
use Rattle.kanal_one_history.proofs.pass.GhostPass.holds.Goals as goal

pub returns-clause-paired : goal.returns-clause-paired
returns-clause-paired g c n =
    let capacity = g.J.LogId.capacity in
    legal_paired_at capacity c.args.self.now.log (subst (λ k. IsLegal capacity k.log) c.self.view_is c.self.invariant.0) n

pub returns-clause-ends_once : goal.returns-clause-ends_once
returns-clause-ends_once g c =
    let capacity = g.J.LogId.capacity in
    each_ends_once capacity c.args.self.now.log (subst (λ k. IsLegal capacity k.log) c.self.view_is c.self.invariant.0)

pub returns-clause-as_settled : goal.returns-clause-as_settled
returns-clause-as_settled g c =
    let capacity = g.J.LogId.capacity in
    waits_as_settled capacity c.args.self.now.log (subst (λ k. IsLegal capacity k.log) c.self.view_is c.self.invariant.0)

pub returns-clause-waits_first : goal.returns-clause-waits_first
returns-clause-waits_first g c =
    let capacity = g.J.LogId.capacity in
    waits_come_first capacity c.args.self.now.log (subst (λ k. IsLegal capacity k.log) c.self.view_is c.self.invariant.0)

pub returns-clause-leads : goal.returns-clause-leads
returns-clause-leads g c =
    let capacity = g.J.LogId.capacity in
    leads_as_told capacity c.args.self.now.log (subst (λ k. IsLegal capacity k.log) c.self.view_is c.self.invariant.0)
