use Rattle.kanal_journal.proofs.Over.{final-after}
use Rattle.kanal_journal.proofs.laws.end_is_final.Goals as goal

pub returns : goal.returns
returns g c = record { law = λ a l. final-after c.args.capacity c.args.events.now a l }
