use Rattle.kanal_journal.proofs.Common.{◌≡◌, drop, outcome_of}
use Rattle.kanal_journal.proofs.journal.recorded_state.RecordedState.outcome.Given as goal

-- the outcome is that of the settlements that are left
abbrev pub invariant-loop-settlement : goal.invariant-loop-settlement
invariant-loop-settlement g l = outcome_of l.ticket (drop l.settlement-index l.self.account.settled) ≡ outcome_of l.ticket l.self.account.settled
