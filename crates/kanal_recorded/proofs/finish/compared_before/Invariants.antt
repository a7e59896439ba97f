use Rattle.kanal_recorded.specs.Comparing.{HasReached}
use Rattle.kanal_recorded.proofs.finish.compared_before.Given as goal

-- the notes so far are compared
abbrev pub invariant-loop-count : goal.invariant-loop-count
invariant-loop-count g l = HasReached l.entries l.pass (record { notes = l.count; entries = l.next })
