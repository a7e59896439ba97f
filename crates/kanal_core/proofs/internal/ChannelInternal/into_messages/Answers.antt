use mathlib.Core.List.{map-append}
use Rattle.kanal_core.proofs.Bare.{messages-bare}
use Rattle.kanal_core.proofs.Sides.{brought-entries}
use Rattle.kanal_core.proofs.internal.ChannelInternal.into_messages.Goals as goal

pub returns : goal.returns
returns g c = rw (← c.self.view_is, map-append, messages-bare, brought-entries) c.new.ensures
