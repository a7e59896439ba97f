use Rattle.kanal_log.specs.Logs.{table_of}
use Rattle.kanal_exchange_run.proofs.calls.map_by_two.Given as goal

-- the name and the capacity of the channel before both stages
abbrev pub ghosts-mapped_by_two-J-LogId : goal.ghosts-mapped_by_two-J-LogId
ghosts-mapped_by_two-J-LogId g a = record { table = table_of a.opened; capacity = a.capacity }

-- of the one between them
abbrev pub ghosts-mapped_by_two-K-LogId : goal.ghosts-mapped_by_two-K-LogId
ghosts-mapped_by_two-K-LogId g a = record { table = table_of a.opened_between; capacity = a.capacity_between }

-- and of the one behind them
abbrev pub ghosts-mapped_by_two-L-LogId : goal.ghosts-mapped_by_two-L-LogId
ghosts-mapped_by_two-L-LogId g a = record { table = table_of a.opened_behind; capacity = a.capacity_behind }
