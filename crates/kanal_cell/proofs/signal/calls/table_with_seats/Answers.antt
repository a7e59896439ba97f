use Rattle.std.proofs.Common.{rules}
use Rattle.kanal_cell.proofs.CellKeeps.{halves, begins}
use Rattle.kanal_cell.proofs.signal.calls.table_with_seats.Goals as goal

pub load-requires : goal.load-requires
load-requires g c = (search rules, search rules, halves _ _ _ (search rules))

pub load-requires-2 : goal.load-requires-2
load-requires-2 g c = (search rules, search rules, begins _ _ _ (search rules))
