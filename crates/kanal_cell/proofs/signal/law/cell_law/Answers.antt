use Rattle.kanal_cell.proofs.CellLawful.{law}
use Rattle.kanal_cell.proofs.signal.law.cell_law.Goals as goal

pub returns : goal.returns
returns c = record { law = law c.args.steps.now }
