use Rattle.kanal_recorded.proofs.Common.{◌≢◌, ◌<◌, ℕ, slice_index_or, Calls}
use Rattle.kanal_recorded.proofs.finish.is_apart.Given as goal

-- no pass so far has the later one's party
abbrev pub invariant-loop-earlier : goal.invariant-loop-earlier
invariant-loop-earlier g l = (a : ℕ) (d : Calls _) → a < l.earlier → (slice_index_or l.passes a d).party ≢ (slice_index_or l.passes l.later d).party
