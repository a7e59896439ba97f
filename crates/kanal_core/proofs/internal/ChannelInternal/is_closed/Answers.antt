use Rattle.std.proofs.Common.{rules}
use Rattle.kanal_core.proofs.internal.ChannelInternal.is_closed.Goals as goal

pub returns-then-send_side_gone : goal.returns-then-send_side_gone
returns-then-send_side_gone g c = search rules

pub returns-else-send_side_gone : goal.returns-else-send_side_gone
returns-else-send_side_gone g c = search rules
