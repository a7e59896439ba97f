use Rattle.std.proofs.Common.{rules}
use Rattle.kanal_core.proofs.error.SendErrorTimeoutDisplay.fmt.Goals as goal

pub returns-in-Timeout-clause-writes : goal.returns-in-Timeout-clause-writes
returns-in-Timeout-clause-writes g c = search rules
