use Rattle.kanal_core.specs.Tickets.{number_of}
use Rattle.kanal_state.specs.Counts.{ticket_of}
use Rattle.kanal_channel.proofs.Ending.{ended_passed}
use Rattle.kanal_channel.proofs.shared.Shared.blocking.Goals as goal

pub returns-in-Err-outcome : goal.returns-in-Err-outcome
returns-in-Err-outcome g c =
    let ticket = number_of (ticket_of c.in-Ok.counted) in
    record { come = ended_passed g.H.History.relations (g.D.Deadline.has_come c.args.deadline.now) c.args.pass.now c.begin.new.pass c.take_back.new.pass c.args.event ticket c.in-Err-outcome.ensures.late c.in-Ok.ensures.begun c.take_back.result c.take_back.ensures.ended }
