use Rattle.std.proofs.Common.{rules}
use Rattle.kanal_journal.proofs.journal.step.Goals as goal

pub returns-clause-told : goal.returns-clause-told
returns-clause-told g c = search rules

pub returns-clause-count : goal.returns-clause-count
returns-clause-count g c = search rules
