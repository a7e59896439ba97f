use Rattle.std.proofs.Common.{rules}
use Rattle.kanal_core.proofs.internal.leaving.Ending.settle.Goals as goal

pub returns : goal.returns
returns g c = search rules
