use Rattle.kanal_pool.specs.Answers.{AreInPlace}
use Rattle.kanal_pool.proofs.pool.collect.Given as goal

-- each answer so far stands in its job's place
abbrev pub invariant-loop : goal.invariant-loop
invariant-loop g l = AreInPlace g.J.Job.value l.fn.jobs l.places.items
