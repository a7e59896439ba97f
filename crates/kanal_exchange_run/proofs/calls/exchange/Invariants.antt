use Rattle.kanal_log.specs.Logs.{table_of}
use Rattle.kanal_exchange_run.proofs.calls.exchange.Given as goal

-- the log's name and the channel's capacity
abbrev pub ghosts-exchanged : goal.ghosts-exchanged
ghosts-exchanged g a = record { table = table_of a.opened; capacity = a.capacity }
