use Rattle.std.proofs.Common.{rules}
use Rattle.kanal_recorded.proofs.inner.Inner.outcome.Goals as goal

pub returns : goal.returns
returns g c = search rules
