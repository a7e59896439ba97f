use Rattle.std.proofs.Common.{rules}
use Rattle.kanal_journal.proofs.journal.recorded_state.RecordedState.new.Goals as goal

pub returns-in_err-running-clause-large : goal.returns-in_err-running-clause-large
returns-in_err-running-clause-large g c = search rules

pub invariant_of-result : goal.invariant_of-result
invariant_of-result g c = search rules

pub returns-clause-opened : goal.returns-clause-opened
returns-clause-opened g c = search rules

pub returns-clause-large : goal.returns-clause-large
returns-clause-large g c = (λ e. absurd (cc), λ h. let wrong = c.in_ok-running.ensures.large.1 h in absurd (cc))
