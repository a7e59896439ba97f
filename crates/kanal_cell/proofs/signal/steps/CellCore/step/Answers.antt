use Rattle.std.proofs.Common.{rules}
use Rattle.kanal_cell.proofs.signal.steps.CellCore.step.Goals as goal

pub returns-else-self-6-clause-reply : goal.returns-else-self-6-clause-reply
returns-else-self-6-clause-reply c = search rules
