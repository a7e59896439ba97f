use Rattle.kanal_cell.proofs.Common.{rules, Sleeper}
use Rattle.kanal_cell.proofs.CellWord.{ended_of}
use Rattle.kanal_cell.proofs.CellKeeps.{falls_asleep, took_outcome}
use Rattle.kanal_cell.proofs.signal.WaitEnd.register.Goals as goal

pub fetch_or-found-requires : goal.fetch_or-found-requires
fetch_or-found-requires g c = (search rules, search rules, falls_asleep _ _ _ (Sleeper c.args.sleeper) tt (search rules) (search rules) (search rules) (search rules) (search rules))

pub take_outcome-requires : goal.take_outcome-requires
take_outcome-requires g c = let p = c.fetch_or-found.ensures.2 in record { table = search rules; full = took_outcome _ _ _ _ _ (ended_of p.0 _ p.1 c.if-found-ne0.true) p.3 }
