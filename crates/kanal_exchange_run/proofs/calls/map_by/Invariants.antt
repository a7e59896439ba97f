use Rattle.kanal_log.specs.Logs.{table_of}
use Rattle.kanal_exchange_run.proofs.calls.map_by.Given as goal

-- the name and the capacity of the channel before the stage
abbrev pub ghosts-mapped-J-LogId : goal.ghosts-mapped-J-LogId
ghosts-mapped-J-LogId g a = record { table = table_of a.opened; capacity = a.capacity }

-- and of the one behind it
abbrev pub ghosts-mapped-K-LogId : goal.ghosts-mapped-K-LogId
ghosts-mapped-K-LogId g a = record { table = table_of a.opened_behind; capacity = a.capacity_behind }
