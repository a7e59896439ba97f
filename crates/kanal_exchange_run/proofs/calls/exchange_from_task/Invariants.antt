use Rattle.kanal_log.specs.Logs.{table_of}
use Rattle.kanal_exchange_run.proofs.calls.exchange_from_task.Given as goal

-- the log's name and the channel's capacity
abbrev pub ghosts-exchanged_from_task : goal.ghosts-exchanged_from_task
ghosts-exchanged_from_task g a = record { table = table_of a.opened; capacity = a.capacity }
