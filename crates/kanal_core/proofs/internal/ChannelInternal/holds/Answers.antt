use Rattle.kanal_core.proofs.Stepping.{one-side, waits-full, not-given}
use Rattle.kanal_core.specs.declared.internal.outcome.Ticket.{Ticket}
use Rattle.kanal_core.proofs.internal.ChannelInternal.holds.Goals as goal

none : Ticket
none = record { number = 0; place = 0 }

pub returns-clause-one_side : goal.returns-clause-one_side
returns-clause-one_side g c =
    let now = c.self.inside in
    rw (← c.self.view_is) (one-side now.capacity now.senders now.receivers now.next now.buffer.messages now.waiters none c.self.invariant.side)

pub returns-clause-bound : goal.returns-clause-bound
returns-clause-bound g c = rw (← c.self.view_is) c.self.invariant.within

pub returns-clause-full : goal.returns-clause-full
returns-clause-full g c =
    let now = c.self.inside in
    rw (← c.self.view_is) (waits-full now.capacity now.senders now.receivers now.next now.buffer.messages now.waiters none c.self.invariant.side)

pub returns-clause-given : goal.returns-clause-given
returns-clause-given g c =
    let now = c.self.inside in
    rw (← c.self.view_is) (λ t h. not-given now.capacity now.senders now.receivers now.next now.buffer.messages now.waiters none t h c.self.invariant.rises c.self.invariant.side)

pub returns-clause-rising : goal.returns-clause-rising
returns-clause-rising g c = rw (← c.self.view_is) c.self.invariant.rises
