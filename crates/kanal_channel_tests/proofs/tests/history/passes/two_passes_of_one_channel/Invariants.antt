use Rattle.std.proofs.Common.{Some}
use Rattle.kanal_log.specs.Logs.{table_of}
use Rattle.kanal_channel_tests.proofs.tests.history.passes.two_passes_of_one_channel.Given as goal

-- the log's name and the channel's capacity
abbrev pub ghosts-two_passes : goal.ghosts-two_passes
ghosts-two_passes g a = record { table = table_of a.opened; capacity = Some a.capacity }
