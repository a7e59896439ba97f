use Rattle.kanal_recorded.proofs.Merging.{none_reached, all_reached}
use Rattle.kanal_recorded.proofs.finish.is_group_among.Goals as goal

pub loop-end-init : goal.loop-end-init
loop-end-init g c = none_reached c.args.entries.now c.args.group.now 512 c.requires.few

pub returns : goal.returns
returns g c = λ h. all_reached c.args.entries.now c.args.group.now c.loop-end.reached c.loop-end.invariant (c.are_at_end.ensures h)
