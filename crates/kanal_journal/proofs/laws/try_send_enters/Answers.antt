use Rattle.std.proofs.Common.{rules}
use Rattle.kanal_journal.proofs.laws.try_send_enters.Goals as goal

pub returns : goal.returns
returns g c = search rules
