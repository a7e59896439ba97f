use Rattle.std.proofs.Common.{rules}
use Rattle.kanal_cell.proofs.signal.steps.CellCore.settle.Goals as goal

pub returns-then-self-2-clause-reply : goal.returns-then-self-2-clause-reply
returns-then-self-2-clause-reply c = search rules

pub returns-else-self-2-clause-reply : goal.returns-else-self-2-clause-reply
returns-else-self-2-clause-reply c = search rules
