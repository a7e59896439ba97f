use Rattle.kanal_journal.proofs.Common.{subst, Gives}
use Rattle.kanal_journal.proofs.Giving.{gives-one, still_given}
use Rattle.kanal_journal.proofs.journal.calls.wait.Goals as goal

pub returns-in-Ticket-clause-given : goal.returns-in-Ticket-clause-given
returns-in-Ticket-clause-given g c =
    let old = c.args.core.now in
    let new = c.make_waiting-made.new.core in
    rw c.push_reserved.ensures.items (gives-one c.args.tickets.now.items old new c.in-Ticket.ticket c.requires.given (subst (λ k. Gives k old new) c.in-Ticket.is c.make_waiting-made.ensures.tickets))

pub returns-in-Back-clause-given : goal.returns-in-Back-clause-given
returns-in-Back-clause-given g c =
    let old = c.args.core.now in
    let new = c.make_waiting-made.new.core in
    still_given c.args.tickets.now.items old new c.requires.given (subst (λ k. Gives k old new) c.in-Back.is c.make_waiting-made.ensures.tickets)
