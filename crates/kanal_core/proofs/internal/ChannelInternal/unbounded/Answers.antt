use Rattle.std.proofs.Common.{rules}
use Rattle.kanal_core.proofs.internal.ChannelInternal.unbounded.Goals as goal

pub empty-requires : goal.empty-requires
empty-requires g c = search rules

pub returns : goal.returns
returns g c = search rules
