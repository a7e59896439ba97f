use Rattle.std.proofs.Common.{Some}
use Rattle.kanal_log.specs.Logs.{table_of}
use Rattle.kanal_channel_tests.proofs.tests.history.drained.a_thousand_at_once_and_those_of_waiting_senders.Given as goal

-- the log's name and the channel's capacity, of each of the two
abbrev pub ghosts-one_thread : goal.ghosts-one_thread
ghosts-one_thread g a = record { table = table_of a.opened; capacity = Some a.capacity }

abbrev pub ghosts-two_threads : goal.ghosts-two_threads
ghosts-two_threads g a = record { table = table_of a.opened; capacity = Some a.capacity }
