use Rattle.std.proofs.Common.{rules}
use Rattle.kanal_core.proofs.internal.draining.reserve.Goals as goal

pub returns-in-Ok-clause-enough : goal.returns-in-Ok-clause-enough
returns-in-Ok-clause-enough g c = search rules
