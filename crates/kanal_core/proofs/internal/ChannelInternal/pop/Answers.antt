use Rattle.std.proofs.Common.{refl}
use Rattle.kanal_core.proofs.Stepping.{popped}
use Rattle.kanal_core.proofs.internal.ChannelInternal.pop.Goals as goal

pub returns-clause-step : goal.returns-clause-step
returns-clause-step g c =
    let now = c.self.inside in
    rw (← c.self.view_is) (popped _ _ _ now.capacity now.senders now.receivers now.next now.buffer.messages c.pop_front.new.self.messages now.waiters c.pop_front.result c.if-self-eq0.false (c.if-not-is_empty.ensures.0 refl) c.pop_front.ensures)
