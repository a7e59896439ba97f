use Rattle.std.proofs.Common.{rules}
use Rattle.kanal_cell.proofs.signal.steps.CellCore.word.Goals as goal

pub returns : goal.returns
returns c = search rules
