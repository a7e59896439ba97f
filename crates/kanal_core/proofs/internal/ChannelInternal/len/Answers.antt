use Rattle.std.proofs.Common.{sym, ◌∙◌}
use Rattle.kanal_core.proofs.Sided.{len-line}
use Rattle.kanal_core.proofs.internal.ChannelInternal.len.Goals as goal

pub returns : goal.returns
returns g c = rw (← c.self.view_is) (c.len.ensures.len ∙ sym (len-line c.self.inside.buffer.messages c.self.inside.capacity c.self.inside.waiters c.self.invariant.side c.self.invariant.within))
