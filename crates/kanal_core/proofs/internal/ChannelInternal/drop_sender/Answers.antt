use Rattle.kanal_core.proofs.Common.{rules, SendClosed}
use Rattle.kanal_core.proofs.Dropping.{ends-all}
use Rattle.kanal_core.proofs.internal.ChannelInternal.drop_sender.Goals as goal

pub returns-then-self-eq1-clause-step : goal.returns-then-self-eq1-clause-step
returns-then-self-eq1-clause-step g c =
    let now = c.self.inside in
    rw (← c.self.view_is, c.all.ensures.ended, c.all.ensures.left, c.if-self-eq1.true) (ends-all now.capacity 0 now.receivers now.next now.buffer.messages now.waiters c.self.invariant.side c.self.invariant.within SendClosed)

pub returns-clause-step : goal.returns-clause-step
returns-clause-step g c = search rules

pub returns-clause-after : goal.returns-clause-after
returns-clause-after g c = search rules

pub returns-clause-gone : goal.returns-clause-gone
returns-clause-gone g c = search rules
