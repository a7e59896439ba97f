use Rattle.kanal_recorded.proofs.Common.{rules, AllWithin-upto, All-from_all_within, NotesAmong}
use Rattle.kanal_recorded.proofs.Merging.{group_reached}
use Rattle.kanal_recorded.proofs.finish.are_among.Goals as goal

pub loop-first-preserved : goal.loop-first-preserved
loop-first-preserved g c =
    (search rules, group_reached c.args.entries.now c.args.passes.now c.loop-first.first _ (search rules) (search rules) c.loop-first.invariant.1 (c.is_group_among.ensures (search rules)))

pub returns : goal.returns
returns g c = λ _. All-from_all_within (NotesAmong c.args.entries.now) c.args.passes.now (AllWithin-upto (NotesAmong c.args.entries.now) c.args.passes.now 0 c.loop-first.first _ (search rules) c.loop-first.invariant.1)
