use Rattle.std.proofs.Common.{Some, ap}
use Rattle.kanal_events.proofs.Giving.{gives-last}
use Rattle.kanal_events.proofs.steps.wait_send.Goals as goal

pub returns-in-Ok-clause-tickets : goal.returns-in-Ok-clause-tickets
returns-in-Ok-clause-tickets g c = gives-last c.args.core.now c.wait_send.new.self (Some c.args.message) c.args.w c.in-Ok.ticket c.in-Ok.ensures.waits (ap (λ l. l.next) c.in-Ok.ensures.step)
