use Rattle.std.proofs.Common.{sym}
use Rattle.kanal_core.proofs.Sealing.{seals-others, seals-receivers}
use Rattle.kanal_core.proofs.internal.ChannelInternal.seal.Goals as goal

pub returns-then-receiver_first-clause-step : goal.returns-then-receiver_first-clause-step
returns-then-receiver_first-clause-step g c =
    let now = c.self.inside in
    rw (← c.self.view_is, c.all.ensures.ended, c.all.ensures.left)
    (seals-receivers now.capacity now.senders now.receivers now.next now.buffer.messages now.waiters c.self.invariant.side c.self.invariant.within (sym c.if-receiver_first.ensures))

pub returns-clause-step : goal.returns-clause-step
returns-clause-step g c =
    let now = c.self.inside in
    rw (← c.self.view_is, c.nobody.ensures)
    (seals-others now.capacity now.senders now.receivers now.next now.buffer.messages now.waiters c.self.invariant.side c.self.invariant.within (sym c.if-receiver_first.ensures))
