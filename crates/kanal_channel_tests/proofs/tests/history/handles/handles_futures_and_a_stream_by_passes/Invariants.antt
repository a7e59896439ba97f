use Rattle.kanal_log.specs.Logs.{table_of}
use Rattle.kanal_channel_tests.proofs.tests.history.handles.handles_futures_and_a_stream_by_passes.Given as goal

-- the log's name and the channel's capacity
abbrev pub ghosts-rows : goal.ghosts-rows
ghosts-rows g a = record { table = table_of a.opened; capacity = a.capacity }
