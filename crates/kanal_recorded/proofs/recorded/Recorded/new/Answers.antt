use Rattle.std.proofs.Common.{rules}
use Rattle.kanal_recorded.proofs.recorded.Recorded.new.Goals as goal

pub returns-in_err-inner-clause-large : goal.returns-in_err-inner-clause-large
returns-in_err-inner-clause-large g c = search rules

pub returns-clause-capacity : goal.returns-clause-capacity
returns-clause-capacity g c = search rules

pub returns-clause-large : goal.returns-clause-large
returns-clause-large g c = search rules
