use Rattle.std.proofs.Common.{rules}
use Rattle.kanal_core.proofs.internal.ChannelInternal.capacity.Goals as goal

pub returns-in-None : goal.returns-in-None
returns-in-None g c = search rules
