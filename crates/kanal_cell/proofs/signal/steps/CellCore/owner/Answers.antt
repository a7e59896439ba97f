use Rattle.std.proofs.Common.{rules}
use Rattle.kanal_cell.proofs.signal.steps.CellCore.owner.Goals as goal

pub returns-then-self : goal.returns-then-self
returns-then-self c = search rules
