use Rattle.std.proofs.Common.{rules}
use Rattle.kanal_journal.proofs.journal.running.channel.Goals as goal

pub returns-in-Some-clause-new : goal.returns-in-Some-clause-new
returns-in-Some-clause-new g c = search rules

pub returns-in-Some-clause-large : goal.returns-in-Some-clause-large
returns-in-Some-clause-large g c = search rules
