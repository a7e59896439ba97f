use Rattle.std.proofs.Common.{◌≡◌}
use Rattle.kanal_state.proofs.state.State.drop_handles.Given as goal

abbrev pub decreases-loop-counted : goal.decreases-loop-counted
decreases-loop-counted g l = l.gone.count

-- who waited waits still, since only the last drop ends waits
abbrev pub invariant-loop-counted : goal.invariant-loop-counted
invariant-loop-counted g l = l.self.2 ≡ l.initial.self.2
