use Rattle.kanal_recorded.proofs.Common.{rules, sym, subst, ◌∙◌, slice_index_or, get_or_default, Reached, HasReached}
use Rattle.kanal_recorded.proofs.Merging.{further_reached}
use Rattle.kanal_recorded.proofs.finish.are_alike_before.Goals as goal

pub compared_before-requires-clause-reached : goal.compared_before-requires-clause-reached
compared_before-requires-clause-reached g c =
    let start : Reached = record { notes = 0; entries = 0 } in
    let kept = slice_index_or c.loop-number.reached c.loop-number.number start in
    subst (λ p. HasReached c.args.entries.now p kept) (sym c.index-group-number.is) (c.loop-number.invariant.1 c.loop-number.number c.index-group-number.result start (search rules))

pub loop-number-preserved : goal.loop-number-preserved
loop-number-preserved g c = (
  search rules,
  further_reached c.args.entries.now c.args.group.now c.loop-number.reached c.loop-number.number c.in-Some.further (search rules)
      (λ d. rw (get_or_default c.args.group.now c.loop-number.number d c.index-group-number.result (search rules) ∙ sym c.index-group-number.is) c.in-Some.ensures)
      c.loop-number.invariant.1,
)
