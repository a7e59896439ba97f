use Rattle.std.proofs.Common.{rules}
use Rattle.kanal_recorded.proofs.inner.Inner.new.Goals as goal

pub returns-clause-opened : goal.returns-clause-opened
returns-clause-opened g c = search rules
