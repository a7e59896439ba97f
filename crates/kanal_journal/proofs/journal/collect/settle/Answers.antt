use Rattle.std.proofs.Common.{rules}
use Rattle.kanal_journal.proofs.journal.collect.settle.Goals as goal

pub returns-clause-items : goal.returns-clause-items
returns-clause-items g c = search rules
