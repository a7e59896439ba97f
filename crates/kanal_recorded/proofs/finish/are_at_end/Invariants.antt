use Rattle.kanal_recorded.specs.Comparing.{AreAtEnd}
use Rattle.kanal_recorded.proofs.finish.are_at_end.Given as goal

-- each pass so far has come to the end of its list
abbrev pub invariant-loop-number : goal.invariant-loop-number
invariant-loop-number g l = AreAtEnd l.group l.reached l.number
