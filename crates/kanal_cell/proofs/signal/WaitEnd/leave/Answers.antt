use Rattle.std.proofs.Common.{rules}
use Rattle.kanal_cell.proofs.CellKeeps.{leaves, finds}
use Rattle.kanal_cell.proofs.signal.WaitEnd.leave.Goals as goal

pub fetch_or-found-requires : goal.fetch_or-found-requires
fetch_or-found-requires g c = (search rules, search rules, leaves _ _ _ (search rules) (search rules))

pub take_outcome-requires : goal.take_outcome-requires
take_outcome-requires g c = let p = c.fetch_or-found.ensures.2 in record { table = search rules; full = finds c.args.self.now.seat.me.0.had p.0 _ _ _ p.1 c.if-found-ne0.true (search rules) p.3 }
