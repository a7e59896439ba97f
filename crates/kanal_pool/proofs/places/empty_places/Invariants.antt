use Rattle.std.proofs.Common.{take}
use Rattle.kanal_pool.specs.Answers.{AreInPlace}
use Rattle.kanal_pool.proofs.places.empty_places.Given as goal

-- the jobs so far have a place each
abbrev pub invariant-loop : goal.invariant-loop
invariant-loop g l = AreInPlace g.J.Job.value (take l.index l.fn.jobs) l.places.items
