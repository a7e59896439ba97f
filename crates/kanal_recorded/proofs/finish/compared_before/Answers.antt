use Rattle.kanal_recorded.proofs.Common.{rules, ◌≡◌, length, get_or, subst, HasReached}
use Rattle.kanal_recorded.proofs.Merging.{one_more_reached}
use Rattle.kanal_recorded.proofs.finish.compared_before.Goals as goal

pub loop-count-preserved : goal.loop-count-preserved
loop-count-preserved g c =
    let pass = c.args.pass.now in
    let note = c.index-notes-count.result in
    one_more_reached c.args.entries.now pass c.loop-count.count c.loop-count.next c.index-entries-place.result note
    (search rules) (search rules) c.index-entries-place.is (search rules) (subst (λ ns. note ≡ get_or ns c.loop-count.count note) c.notes-notes.ensures c.index-notes-count.is) (search rules) (c.is_note_of.ensures (search rules)) c.loop-count.invariant

pub returns : goal.returns
returns g c =
    let whole : c.loop-count.count ≡ length c.notes-notes.result.now = search rules in
    subst (λ k. HasReached c.args.entries.now c.args.pass.now (record { notes = k; entries = c.loop-count.next })) whole c.loop-count.invariant
