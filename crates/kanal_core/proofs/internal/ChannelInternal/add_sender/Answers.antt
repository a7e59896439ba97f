use Rattle.std.proofs.Common.{rules}
use Rattle.kanal_core.proofs.internal.ChannelInternal.add_sender.Goals as goal

pub returns-clause-raised : goal.returns-clause-raised
returns-clause-raised g c = search rules
