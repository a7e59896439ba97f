use Rattle.kanal_recorded.proofs.Common.{◌≤◌, length, HaveReached}
use Rattle.kanal_recorded.proofs.finish.are_alike_before.Given as goal

-- each pass has come as far as is kept
abbrev pub invariant-loop-number : goal.invariant-loop-number
invariant-loop-number g l = (length l.group ≤ length l.reached) × HaveReached l.entries l.group l.reached
