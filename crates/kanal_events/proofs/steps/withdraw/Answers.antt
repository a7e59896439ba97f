use Rattle.kanal_events.proofs.Giving.{none-without}
use Rattle.kanal_events.proofs.steps.withdraw.Goals as goal

pub returns-clause-tickets : goal.returns-clause-tickets
returns-clause-tickets g c = none-without c.args.core.now c.withdraw.new.self c.args.ticket c.withdraw.ensures.ticket c.withdraw.ensures.others
