use Rattle.kanal_journal.proofs.Lawful.{lengths}
use Rattle.kanal_journal.proofs.laws.lengths_agree.Goals as goal

pub returns : goal.returns
returns g c = record { law = λ a l. lengths c.args.capacity c.args.events.now a l }
