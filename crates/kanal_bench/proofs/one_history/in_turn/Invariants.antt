use Rattle.std.proofs.Common.{Some, None}
use Rattle.kanal_log.specs.Logs.{table_of}
use Rattle.kanal_bench.proofs.one_history.in_turn.Given as goal

-- the log's name and the channel's capacity
abbrev pub ghosts-bounded : goal.ghosts-bounded
ghosts-bounded g a = record { table = table_of a.opened; capacity = Some a.capacity }

-- the log's name, and no capacity
abbrev pub ghosts-unbounded : goal.ghosts-unbounded
ghosts-unbounded g a = record { table = table_of a.opened; capacity = None }
