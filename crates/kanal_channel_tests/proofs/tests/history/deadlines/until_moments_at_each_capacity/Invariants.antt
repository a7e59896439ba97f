use Rattle.std.proofs.Common.{None, Some}
use Rattle.kanal_log.specs.Logs.{table_of}
use Rattle.kanal_channel_tests.proofs.tests.history.deadlines.until_moments_at_each_capacity.Given as goal

-- the log's name and the channel's capacity
abbrev pub ghosts-exchange_bounded : goal.ghosts-exchange_bounded
ghosts-exchange_bounded g a = record { table = table_of a.opened; capacity = Some a.capacity }

-- the log's name, and no capacity
abbrev pub ghosts-exchange_unbounded : goal.ghosts-exchange_unbounded
ghosts-exchange_unbounded g a = record { table = table_of a.opened; capacity = None }
