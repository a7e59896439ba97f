use Rattle.std.proofs.Common.{rules}
use Rattle.kanal_core.proofs.internal.ChannelInternal.is_bounded.Goals as goal

pub returns : goal.returns
returns g c = search rules
