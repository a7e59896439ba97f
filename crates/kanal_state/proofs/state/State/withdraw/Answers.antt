use Rattle.kanal_state.proofs.Common.{refl, subst, line_of, Withdraw, withdrawn, Tells, ticket_of}
use Rattle.kanal_core.specs.Tickets.{number_of}
use Rattle.kanal_state.proofs.Telling.{tells_step}
use Rattle.kanal_state.proofs.Noting.{told-on}
use Rattle.kanal_state.proofs.state.State.withdraw.Goals as goal

pub returns-clause-told : goal.returns-clause-told
returns-clause-told g c =
    let l = line_of c.self.inside.core in
    let event = Withdraw (number_of (ticket_of c.args.counted)) in
    let told = withdrawn (line_of c.withdraw.new.core) c.in-Some.waiter.message in
    let tells : Tells l event told = subst (λ t. Tells l (Withdraw (number_of t)) told) c.ticket-ticket.ensures c.in-Some.ensures.told in
    (l, told-on l event told (tells_step l event told tells refl))
