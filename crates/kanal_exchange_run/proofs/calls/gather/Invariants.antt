use Rattle.kanal_log.specs.Logs.{table_of}
use Rattle.kanal_exchange_run.proofs.calls.gather.Given as goal

-- the log's name and the channel's capacity
abbrev pub ghosts-gathered : goal.ghosts-gathered
ghosts-gathered g a = record { table = table_of a.opened; capacity = a.capacity }
