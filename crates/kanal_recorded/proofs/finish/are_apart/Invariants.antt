use Rattle.kanal_recorded.proofs.Common.{◌≢◌, ◌<◌, ℕ, slice_index_or, Calls}
use Rattle.kanal_recorded.proofs.finish.are_apart.Given as goal

-- no two passes so far have one party
abbrev pub invariant-loop-later : goal.invariant-loop-later
invariant-loop-later g l = (a b : ℕ) (d : Calls _) → a < b → b < l.later → (slice_index_or l.passes a d).party ≢ (slice_index_or l.passes b d).party
