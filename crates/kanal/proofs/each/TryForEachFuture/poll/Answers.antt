use Rattle.std.proofs.Common.{◌≡◌, false, Ok, Err, of_calls, subst}
use denote.Param.Members.{Called}
use Rattle.std.specs.Option.{IfNone, IfSome, IsSome}
use Rattle.kanal_futures.specs.Streams.{EndsSo, HasReceived, StreamRefused, stream_fault, stream_is_over, stream_pass}
use Rattle.kanal.proofs.Loops.{hands_received, until_broken, until_ended, until_on}
use Rattle.kanal.proofs.each.TryForEachFuture.poll.Goals as goal

pub returns-in-Err-clause-value : goal.returns-in-Err-clause-value
returns-in-Err-clause-value g c =
    let w = g.H.History.relations in
    let old = c.loop.self.stream in
    let new = c.poll_next.new.self in
    let got = c.in-Ready-Some in
    let received = subst (λ o. IfSome o (λ m. HasReceived w (stream_pass old) (stream_pass new) (Ok m))) got.field-0-is got.ensures.received in
    let called = subst (λ r. Called g.F.FnMut c.loop.self.call (got.message, tt) r c.call.new.self) c.in-Err.is (record { met = c.call.ensures.met }) in
    c.loop.invariant.2 (Ok (Err c.in-Err.error)) (until_broken w g.F.FnMut (stream_pass old) (stream_pass new) (stream_is_over old) c.loop.self.call c.call.new.self got.message c.in-Err.error received called)

pub returns-in-Ok-clause-value : goal.returns-in-Ok-clause-value
returns-in-Ok-clause-value g c =
    let w = g.H.History.relations in
    let old = c.loop.self.stream in
    let new = c.poll_next.new.self in
    let refused = subst (λ o. IfNone o (IsSome (stream_pass old) → stream_is_over old ≡ false → StreamRefused w (stream_pass old) (stream_pass new) (stream_fault new))) c.in-Ready-None.field-0-is c.in-Ready-None.ensures.refused in
    let so = subst (λ r. IfSome (stream_fault new) (λ e. EndsSo e r)) c.in-Ok.is c.ending.ensures in
    c.loop.invariant.2 (Ok (Ok tt)) (until_ended w g.F.FnMut (stream_pass old) (stream_pass new) (stream_is_over old) (stream_fault new) c.loop.self.call (Ok tt) refused so)

pub returns-in-Err-ending-clause-value : goal.returns-in-Err-ending-clause-value
returns-in-Err-ending-clause-value g c =
    let w = g.H.History.relations in
    let old = c.loop.self.stream in
    let new = c.poll_next.new.self in
    let refused = subst (λ o. IfNone o (IsSome (stream_pass old) → stream_is_over old ≡ false → StreamRefused w (stream_pass old) (stream_pass new) (stream_fault new))) c.in-Ready-None.field-0-is c.in-Ready-None.ensures.refused in
    let so = subst (λ r. IfSome (stream_fault new) (λ e. EndsSo e r)) c.in-Err-ending.is c.ending.ensures in
    c.loop.invariant.2 (Err c.in-Err-ending.error) (until_ended w g.F.FnMut (stream_pass old) (stream_pass new) (stream_is_over old) (stream_fault new) c.loop.self.call (Err c.in-Err-ending.error) refused so)

pub loop-preserved : goal.loop-preserved
loop-preserved g c =
    let w = g.H.History.relations in
    let old = c.loop.self.stream in
    let new = c.poll_next.new.self in
    let got = c.in-Ready-Some in
    let received = subst (λ o. IfSome o (λ m. HasReceived w (stream_pass old) (stream_pass new) (Ok m))) got.field-0-is got.ensures.received in
    let going = subst (λ o. IfSome o (λ _. stream_is_over new ≡ false)) got.field-0-is got.ensures.further in
    let called = subst (λ r. Called g.F.FnMut c.loop.self.call (got.message, tt) r c.call.new.self) c.in_default.is (record { met = c.call.ensures.met }) in
    let handed = hands_received w g.F.FnMut (Ok tt) (stream_pass old) (stream_pass new) c.loop.self.call c.call.new.self got.message received called in
    let callable = c.loop.invariant.0 in (
      search of_calls,
      λ fact held. c.poll_next.ensures.kept fact (c.loop.invariant.1 fact held),
      λ answer all. c.loop.invariant.2 answer (until_on w g.F.FnMut (stream_pass old) (stream_pass new) (stream_is_over old) (stream_is_over new) c.loop.self.call c.call.new.self answer handed going all),
    )
