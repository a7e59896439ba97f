use Rattle.std.proofs.Common.{rules}
use Rattle.kanal_cell.proofs.CellKeeps.{polls, finds}
use Rattle.kanal_cell.proofs.signal.WaitEnd.poll.Goals as goal

pub load-found-requires : goal.load-found-requires
load-found-requires g c = (search rules, search rules, polls _ _ _ (search rules) (search rules))

pub take_outcome-requires : goal.take_outcome-requires
take_outcome-requires g c = let p = c.load-found.ensures.2 in record { table = search rules; full = finds c.args.self.now.seat.me.0.had p.0 _ _ _ p.1 c.if-found-ne0.true (search rules) p.3 }
