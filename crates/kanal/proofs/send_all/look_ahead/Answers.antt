use Rattle.std.proofs.Common.{rules, subst}
use Rattle.kanal.specs.Sends.{Behind, StillGives}
use Rattle.kanal.proofs.Sending.{behind_more, behind_within}
use Rattle.kanal.proofs.send_all.look_ahead.Goals as goal

pub returns-in_default-clause-same : goal.returns-in_default-clause-same
returns-in_default-clause-same g c = λ items last came.
    let first = StillGives g.S.Stream.yields c.args.stream.now in
    let before = StillGives g.S.Stream.yields c.loop-stream.stream in
    let after = StillGives g.S.Stream.yields c.next_item.new.stream in
    subst (λ xs. Behind xs first items last) c.reserve-reserved.ensures.items
    (c.loop-stream.invariant.0 items last (behind_within c.loop-stream.ready.queue.items before after c.in_default.ensures.none items last came))

pub loop-stream-preserved : goal.loop-stream-preserved
loop-stream-preserved g c =
    let before = StillGives g.S.Stream.yields c.loop-stream.stream in
    let after = StillGives g.S.Stream.yields c.next_item.new.stream in
    let had = c.loop-stream.ready.queue.items in
    let item = c.in-Some.item in
    let came = c.in-Some.ensures.came in (
      λ items last given. c.loop-stream.invariant.0 items last
          (behind_more had item before after came.0 came.1 items last (subst (λ xs. Behind xs after items last) c.push_back_reserved.ensures.items given)),
      search rules,
      λ fact held. c.next_item.ensures.kept fact (c.loop-stream.invariant.2 fact held),
    )
