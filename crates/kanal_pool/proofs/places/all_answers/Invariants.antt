use Rattle.std.proofs.Common.{◌≡◌, map, Some}
use Rattle.kanal_pool.proofs.places.all_answers.Given as goal

-- the places so far had an answer each
abbrev pub invariant-loop-place : goal.invariant-loop-place
invariant-loop-place g l = map Some l.found.items ≡ l.yielded
