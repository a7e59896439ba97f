use Rattle.kanal_events.proofs.Giving.{gives-after}
use Rattle.kanal_events.proofs.steps.make_waiting.Goals as goal

pub returns-in-Err-clause-tickets : goal.returns-in-Err-clause-tickets
returns-in-Err-clause-tickets g c = gives-after c.wait-reply.result.1 c.args.core.now c.start.new.core c.wait-reply.new.core c.start.ensures.tickets c.wait-reply.ensures.tickets
