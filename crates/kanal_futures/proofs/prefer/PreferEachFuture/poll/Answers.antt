use Rattle.std.proofs.Common.{of_calls, subst}
use Rattle.std.specs.Option.{IfNone, IfSome}
use Rattle.kanal_futures.specs.Prefers.{HandsOut, HaveNone}
use Rattle.kanal_futures.proofs.Preferring.{message_before, none_before, none_then_end}
use Rattle.kanal_futures.proofs.prefer.PreferEachFuture.poll.Goals as goal

pub returns-in-Ready-None-clause-value : goal.returns-in-Ready-None-clause-value
returns-in-Ready-None-clause-value g c =
    let v = g.G.History.relations in
    let w = g.H.History.relations in
    let none = subst (λ o. IfNone o (HaveNone v w c.loop.self.both c.poll_next.new.self)) c.in-Ready-None.field-0-is c.in-Ready-None.ensures.none in
    c.loop.invariant.2 _ (none_then_end v w g.F.FnMut c.loop.self.both c.poll_next.new.self c.loop.self.call c.ending.result none c.ending.ensures)

pub returns-in-Pending-clause-same : goal.returns-in-Pending-clause-same
returns-in-Pending-clause-same g c = λ answer all.
    c.loop.invariant.2 answer (none_before g.G.History.relations g.H.History.relations g.F.FnMut c.loop.self.both c.poll_next.new.self c.loop.self.call answer c.in-Pending.ensures.stays all)

pub loop-preserved : goal.loop-preserved
loop-preserved g c =
    let v = g.G.History.relations in
    let w = g.H.History.relations in
    let got = c.in-Ready-Some in
    let out = subst (λ o. IfSome o (HandsOut v w c.loop.self.both c.poll_next.new.self)) got.field-0-is got.ensures.received in
    let callable = c.loop.invariant.0 in (
      search of_calls,
      λ fact held. c.poll_next.ensures.kept fact (c.loop.invariant.1 fact held),
      λ answer all. c.loop.invariant.2 answer (message_before v w g.F.FnMut c.loop.self.both c.poll_next.new.self c.loop.self.call c.call.new.self got.message answer out (record { met = c.call.ensures.met }) all),
    )
