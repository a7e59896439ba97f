use Rattle.std.proofs.Common.{rules}
use Rattle.kanal_core.proofs.error.NewErrorDisplay.fmt.Goals as goal

pub returns-in-TooLarge-clause-writes : goal.returns-in-TooLarge-clause-writes
returns-in-TooLarge-clause-writes g c = search rules
