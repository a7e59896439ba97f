use Rattle.kanal_state.proofs.Common.{ap, sym, ◌∙◌, option_copied_mut}
use Rattle.kanal_state.proofs.Renewing.{line-with, takes_node}
use Rattle.kanal_state.proofs.state.internal_calls.take_node.Goals as goal

pub returns-clause-line : goal.returns-clause-line
returns-clause-line g c = line-with c.args.core.now _ _

pub returns-clause-taken : goal.returns-clause-taken
returns-clause-taken g c =
    let was = ap option_copied_mut (sym c.in_ok-waiting.was) ∙ c.waiting.ensures.value in
    takes_node c.args.ticket c.args.core.now.waiters c.in_ok-waiting.field-0.now c.take_node.new.self _
    was c.take_node.ensures.taken c.take_node.ensures.stays
