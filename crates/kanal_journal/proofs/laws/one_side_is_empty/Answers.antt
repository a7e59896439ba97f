use Rattle.kanal_journal.proofs.Lawful.{one-side}
use Rattle.kanal_journal.proofs.laws.one_side_is_empty.Goals as goal

pub returns : goal.returns
returns g c = record { law = λ a l. one-side c.args.capacity c.args.events.now a l }
