use Rattle.std.proofs.Common.{◌≡◌, ◌∙◌, [], Some, None, Ok, Err, ap, rules, sym, subst}
use Rattle.std.specs.Option.{IfSome}
use Rattle.futures.specs.Runs.{Within}
use Rattle.kanal_futures.specs.Futures.{call_begun}
use Rattle.kanal_state.specs.Handles.{Sends}
use Rattle.kanal.specs.Sends.{Behind, LeftBy, StillGives, pass_at}
use Rattle.kanal.proofs.Sending.{Went, at_rest, ended_here, ended_on, ended_refused, from_rest, gives_none, went_message, went_on, went_sent, went_within}
use Rattle.kanal.proofs.send_all.send_each.Goals as goal
use Rattle.kanal.proofs.send_all.send_each.Goals.{in-Some+in-Some-next_message+in-Some-1, in-Some+in-Some-next_message+in-None-1, in-None+in-Ready-Some+in_default}

pub returns-then-is_some-clause-begun : goal.returns-then-is_some-clause-begun
returns-then-is_some-clause-begun g c =
    let w = g.H.History.relations in
    let first = pass_at (call_begun c.args.call.now) c.args.idle.now in
    let before = LeftBy (call_begun c.args.call.now) (Behind c.args.ready.now.queue.items (StillGives g.S.Stream.yields c.args.stream.now)) in
    let was = Behind c.loop.ready.queue.items (StillGives g.S.Stream.yields c.loop.stream) in
    let gives = StillGives g.S.Stream.yields c.next_message.new.stream in
    let is = Behind c.next_message.new.ready.queue.items gives in
    let pass = c.in-Some.pass in
    let idle = sym c.take.ensures.value ∙ c.in-Some.is in
    let none = c.in-None-next_message.ensures in
    let within = subst (λ came. Within was (Behind came gives)) (sym none.empty) none.none in
    let went = at_rest w first before (call_begun c.loop.call) c.loop.idle was pass c.loop.invariant.1 idle c.loop.invariant.0 in
    from_rest w first before (call_begun c.loop.call) c.loop.idle is pass c.loop.invariant.1 idle (went_on w first (Some pass) (Some pass) before was is went (went_within w pass was is within))

pub returns-else-is_some-clause-sent : goal.returns-else-is_some-clause-sent
returns-else-is_some-clause-sent g c =
    let w = g.H.History.relations in
    let first = pass_at (call_begun c.args.call.now) c.args.idle.now in
    let before = LeftBy (call_begun c.args.call.now) (Behind c.args.ready.now.queue.items (StillGives g.S.Stream.yields c.args.stream.now)) in
    let was = Behind c.loop.ready.queue.items (StillGives g.S.Stream.yields c.loop.stream) in
    let pass = c.in-Some.pass in
    let went = at_rest w first before (call_begun c.loop.call) c.loop.idle was pass c.loop.invariant.1 (sym c.take.ensures.value ∙ c.in-Some.is) c.loop.invariant.0 in
    let over = gives_none g.S.Stream.yields c.next_message.new.stream (sym c.is_some.ensures ∙ c.if-is_some.false) in
    ended_on w first (Some pass) (Some pass) before was (Ok tt) went (ended_here w pass was (c.in-None-next_message.ensures.none [] None over))

pub returns-in-Err-clause-sent : goal.returns-in-Err-clause-sent
returns-in-Err-clause-sent g c =
    let w = g.H.History.relations in
    let first = pass_at (call_begun c.args.call.now) c.args.idle.now in
    let before = LeftBy (call_begun c.args.call.now) (Behind c.args.ready.now.queue.items (StillGives g.S.Stream.yields c.args.stream.now)) in
    let rest = Behind c.loop.ready.queue.items (StillGives g.S.Stream.yields c.loop.stream) in
    let sent = c.in-Ready-Some.sent in
    let parts = c.into_parts-pass.result in
    let begun = subst (λ r. IfSome r (λ x. call_begun c.loop.call ≡ Some (x.0, x.1))) c.in-Ready-Some.field-0-is c.in-Ready-Some.ensures.begun in
    let made = subst (λ answer. Sends w sent.0 parts.0 sent.1 answer) c.in-Err.is c.into_parts-pass.ensures.sent in
    let went = subst (λ b. Went w first before (pass_at b c.loop.idle) (LeftBy b rest)) begun c.loop.invariant.0 in
    ended_on w first (Some sent.0) (Some parts.0) before (LeftBy (Some (sent.0, sent.1)) rest) (Err c.in-Err.error) went (ended_refused w sent.0 parts.0 sent.1 rest c.in-Err.error made)

pub loop-preserved : goal.loop-preserved
loop-preserved g c =
    let w = g.H.History.relations in
    let first = pass_at (call_begun c.args.call.now) c.args.idle.now in
    let before = LeftBy (call_begun c.args.call.now) (Behind c.args.ready.now.queue.items (StillGives g.S.Stream.yields c.args.stream.now)) in
    let was = Behind c.loop.ready.queue.items (StillGives g.S.Stream.yields c.loop.stream) in
    elim c.match-take.branch [
      | in-Some+in-Some-next_message+in-Some-1 b ↦
          let went = at_rest w first before (call_begun c.loop.call) c.loop.idle was b.in-Some.pass c.loop.invariant.1 (sym c.take.ensures.value ∙ b.in-Some.is) c.loop.invariant.0 in
          let came = b.next_message.new in
          let on = went_message w first before was b.in-Some.pass b.in-Some-next_message.message came.ready.queue.items b.send_front.new.ready.queue.items (StillGives g.S.Stream.yields came.stream)
          (call_begun b.send_front.new.call) b.send_front.result went b.in-Some-next_message.ensures.came b.send_front.ensures.sent in
          (rw (b.call-is, b.idle-is, b.stream-is, b.ready-is) on, search rules, search rules, search rules)
      | in-Some+in-Some-next_message+in-None-1 b ↦
          let went = at_rest w first before (call_begun c.loop.call) c.loop.idle was b.in-Some.pass c.loop.invariant.1 (sym c.take.ensures.value ∙ b.in-Some.is) c.loop.invariant.0 in
          let came = b.next_message.new in
          let on = went_message w first before was b.in-Some.pass b.in-Some-next_message.message came.ready.queue.items b.send_front.new.ready.queue.items (StillGives g.S.Stream.yields came.stream)
          (call_begun b.send_front.new.call) b.send_front.result went b.in-Some-next_message.ensures.came b.send_front.ensures.sent in
          (rw (b.call-is, b.idle-is, b.stream-is, b.ready-is) on, search rules, search rules, search rules)
      | in-None+in-Ready-Some+in_default b ↦
          let sent = b.in-Ready-Some.sent in
          let parts = b.into_parts-pass.result in
          let begun = subst (λ r. IfSome r (λ x. call_begun c.loop.call ≡ Some (x.0, x.1))) b.in-Ready-Some.field-0-is b.in-Ready-Some.ensures.begun in
          let made = subst (λ answer. Sends w sent.0 parts.0 sent.1 answer) b.in_default.is b.into_parts-pass.ensures.sent in
          let went = subst (λ o. Went w first before (pass_at o c.loop.idle) (LeftBy o was)) begun c.loop.invariant.0 in
          let on = went_on w first (Some sent.0) (Some parts.0) before (LeftBy (Some (sent.0, sent.1)) was) was went (went_sent w sent.0 parts.0 sent.1 was made) in
          let none = ap (λ call. call_begun call) b.call-is ∙ b.in-Ready-Some.ensures.ends in
          (rw (none, b.idle-is, b.stream-is, b.ready-is) on, search rules, search rules, search rules)
    ]
