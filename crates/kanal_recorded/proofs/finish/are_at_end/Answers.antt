use Rattle.kanal_recorded.proofs.Common.{rules, Reached}
use Rattle.kanal_recorded.proofs.Merging.{one_more_at_end}
use Rattle.kanal_recorded.proofs.finish.are_at_end.Goals as goal

pub loop-number-preserved : goal.loop-number-preserved
loop-number-preserved g c =
    let start : Reached = record { notes = 0; entries = 0 } in
    one_more_at_end c.args.group.now c.args.reached.now c.loop-number.number c.index-group-number.result start (search rules) (search rules) c.index-group-number.is (search rules) c.loop-number.invariant
