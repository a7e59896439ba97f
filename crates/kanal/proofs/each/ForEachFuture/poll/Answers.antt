use Rattle.std.proofs.Common.{◌≡◌, false, Ok, of_calls, subst, sym}
use Rattle.std.specs.Option.{IfNone, IfSome, IsSome}
use Rattle.std.specs.Prelude.{is_some}
use Rattle.kanal_futures.specs.Streams.{HasReceived, StreamRefused, stream_fault, stream_is_over, stream_pass}
use Rattle.kanal.specs.Messages.{HandsOn}
use Rattle.kanal.proofs.Loops.{all_ended, all_on, hands_received}
use Rattle.kanal.proofs.each.ForEachFuture.poll.Goals as goal

pub returns-in-Pending-clause-same : goal.returns-in-Pending-clause-same
returns-in-Pending-clause-same g c = λ answer came.
    let w = g.H.History.relations in
    let first = c.loop.self.stream in
    let new = c.poll_next.new.self in
    let handed = subst (λ pass. HandsOn w g.F.FnMut tt (stream_pass first) c.loop.self.call pass c.hand_over.new.call) (sym c.in-Pending.ensures.stays) c.hand_over.ensures.handed in
    c.loop.invariant.2 answer (all_on w g.F.FnMut (stream_pass first) (stream_pass new) (stream_is_over first) (stream_is_over new) c.loop.self.call c.hand_over.new.call answer handed (λ live. c.in-Pending.ensures.goes_on) came)

pub returns-in-Ready-None-clause-value : goal.returns-in-Ready-None-clause-value
returns-in-Ready-None-clause-value g c =
    let w = g.H.History.relations in
    let first = c.loop.self.stream in
    let old = c.hand_over.new.stream in
    let new = c.poll_next.new.self in
    let refused = subst (λ o. IfNone o (IsSome (stream_pass old) → stream_is_over old ≡ false → StreamRefused w (stream_pass old) (stream_pass new) (stream_fault new))) c.in-Ready-None.field-0-is c.in-Ready-None.ensures.refused in
    let ended = all_ended w g.F.FnMut (stream_pass old) (stream_pass new) (stream_is_over old) (stream_fault new) c.hand_over.new.call c.ending.result refused c.ending.ensures in
    let going : stream_is_over first ≡ false → stream_is_over old ≡ false = λ live. subst (λ fault. is_some fault ≡ false) (sym c.hand_over.ensures.fault) live in
    c.loop.invariant.2 _ (all_on w g.F.FnMut (stream_pass first) (stream_pass old) (stream_is_over first) (stream_is_over old) c.loop.self.call c.hand_over.new.call c.ending.result c.hand_over.ensures.handed going ended)

pub loop-preserved : goal.loop-preserved
loop-preserved g c =
    let w = g.H.History.relations in
    let first = c.loop.self.stream in
    let old = c.hand_over.new.stream in
    let new = c.poll_next.new.self in
    let got = c.in-Ready-Some in
    let received = subst (λ o. IfSome o (λ m. HasReceived w (stream_pass old) (stream_pass new) (Ok m))) got.field-0-is got.ensures.received in
    let further = subst (λ o. IfSome o (λ _. stream_is_over new ≡ false)) got.field-0-is got.ensures.further in
    let handed = hands_received w g.F.FnMut tt (stream_pass old) (stream_pass new) c.hand_over.new.call c.call.new.self got.message received (record { met = c.call.ensures.met }) in
    let going : stream_is_over first ≡ false → stream_is_over old ≡ false = λ live. subst (λ fault. is_some fault ≡ false) (sym c.hand_over.ensures.fault) live in
    let callable = c.hand_over.ensures.callable in (
      search of_calls,
      λ fact held. c.poll_next.ensures.kept fact (c.loop.invariant.1 fact held),
      λ answer all.
          c.loop.invariant.2 answer (all_on w g.F.FnMut (stream_pass first) (stream_pass old) (stream_is_over first) (stream_is_over old) c.loop.self.call c.hand_over.new.call answer c.hand_over.ensures.handed going
          (all_on w g.F.FnMut (stream_pass old) (stream_pass new) (stream_is_over old) (stream_is_over new) c.hand_over.new.call c.call.new.self answer handed (λ live. further) all)),
    )
