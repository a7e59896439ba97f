use Rattle.std.proofs.Common.{rules}
use Rattle.kanal_recorded.proofs.inner.Inner.next_party.Goals as goal

pub returns-clause-rises : goal.returns-clause-rises
returns-clause-rises g c = search rules
