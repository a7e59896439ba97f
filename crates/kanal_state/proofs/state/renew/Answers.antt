use Rattle.kanal_state.proofs.Common.{ap, sym, ◌∙◌, option_copied_mut}
use Rattle.kanal_state.proofs.Renewing.{line-with, renews}
use Rattle.kanal_state.proofs.state.renew.Goals as goal

pub returns-clause-line : goal.returns-clause-line
returns-clause-line g c = line-with c.args.core.now c.args.ticket _

pub returns-clause-renewed : goal.returns-clause-renewed
returns-clause-renewed g c =
    let was = ap option_copied_mut (sym c.in-Some.is) ∙ c.waiting.ensures.value in
    renews c.args.ticket c.args.spare.now c.renew.new.spare c.args.core.now.waiters c.in-Some.waiter.now _ was c.renew.ensures.swapped
