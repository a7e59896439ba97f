use Rattle.kanal_log.specs.Logs.{table_of}
use Rattle.kanal_channel_tests.proofs.tests.history.timed.rows_with_a_deadline.Given as goal

-- the log's name and the channel's capacity
abbrev pub ghosts-row : goal.ghosts-row
ghosts-row g a = record { table = table_of a.opened; capacity = a.capacity }
