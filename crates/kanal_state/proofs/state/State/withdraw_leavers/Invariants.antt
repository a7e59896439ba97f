use Rattle.kanal_state.proofs.Common.{◌≤◌, length, HaveLeft}
use Rattle.kanal_state.proofs.state.State.withdraw_leavers.Given as goal

-- at most one is kept a round, and those that are kept have left
abbrev pub invariant-loop-count : goal.invariant-loop-count
invariant-loop-count g l = (length l.leavers ≤ l._count) × HaveLeft l.initial.self.2 l.leavers l.self.2
