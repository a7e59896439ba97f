use Rattle.kanal_journal.proofs.Lawful.{ends-once}
use Rattle.kanal_journal.proofs.laws.ticket_ends_once.Goals as goal

pub returns : goal.returns
returns g c = record { law = λ a l t. ends-once c.args.capacity c.args.events.now a l t }
