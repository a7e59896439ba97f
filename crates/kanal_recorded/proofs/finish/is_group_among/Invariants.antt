use Rattle.kanal_recorded.proofs.Common.{length, ◌-◌, HaveReached}
use Rattle.kanal_recorded.proofs.finish.is_group_among.Given as goal

-- each pass has come as far as is kept
abbrev pub invariant-loop-end : goal.invariant-loop-end
invariant-loop-end g l = HaveReached l.entries l.group l.reached

-- the entries that no window has covered
abbrev pub decreases-loop-end : goal.decreases-loop-end
decreases-loop-end g l = length l.entries - l.end
