use Rattle.kanal_recorded.proofs.Merged.{merged}
use Rattle.kanal_recorded.proofs.finish.is_merged.Goals as goal

pub returns : goal.returns
returns g c = λ h. merged c.args.entries.now c.args.passes.now (c.are_apart.ensures c.if-not-are_apart.false) (c.are_as_many.ensures c.if-not-are_as_many.false) (c.are_among.ensures h)
