use Rattle.kanal_recorded.proofs.Common.{length, ◌-◌, ◌≤◌, AllWithin, NotesAmong}
use Rattle.kanal_recorded.proofs.finish.are_among.Given as goal

-- the lists of the passes before this one are of entries of their parties
abbrev pub invariant-loop-first : goal.invariant-loop-first
invariant-loop-first g l = (l.first ≤ length l.passes) × AllWithin (NotesAmong l.entries) l.passes 0 l.first

-- the passes that were not compared
abbrev pub decreases-loop-first : goal.decreases-loop-first
decreases-loop-first g l = length l.passes - l.first
