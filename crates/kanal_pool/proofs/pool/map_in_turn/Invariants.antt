use Rattle.std.proofs.Common.{◌≡◌, take}
use Rattle.kanal_pool.specs.Answers.{answers}
use Rattle.kanal_pool.proofs.pool.map_in_turn.Given as goal

-- the answers of the jobs so far
abbrev pub invariant-loop-job : goal.invariant-loop-job
invariant-loop-job g l = l.found.items ≡ answers g.J.Job.value (take l.job-index l.fn.jobs)
