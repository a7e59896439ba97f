use Rattle.std.proofs.Common.{rules}
use Rattle.kanal_core.proofs.internal.ChannelInternal.starting_at.Goals as goal

pub returns-clause-new : goal.returns-clause-new
returns-clause-new g c = search rules
