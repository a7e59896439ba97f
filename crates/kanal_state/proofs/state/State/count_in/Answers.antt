use Rattle.kanal_state.proofs.Common.{◌∙◌, ap, told_of, counted_by}
use Rattle.kanal_state.proofs.Counting.{more_counted, more_settles}
use Rattle.kanal_state.proofs.Leaving.{nobody_leaves}
use Rattle.kanal_state.proofs.state.State.count_in.Goals as goal

pub into_parts-reply-requires : goal.into_parts-reply-requires
into_parts-reply-requires g c =
    record { nobody = more_settles c.args.self.now.1 c.args.side c.one_more.result (told_of c.make-made.new.self.1 c.make-made.result) c.one_more.ensures c.make-made.ensures.step }

pub returns-clause-counted : goal.returns-clause-counted
returns-clause-counted g c =
    more_counted g.H.History.relations c.args.pass.now c.make-made.new.pass c.args.side c.one_more.result c.make-made.result c.counted_by.result c.one_more.ensures c.make-made.ensures.noted
    (c.counted_by.ensures ∙ ap counted_by c.into_parts-reply.ensures.reply)

pub returns-clause-rest : goal.returns-clause-rest
returns-clause-rest g c =
    let nobody = more_settles c.args.self.now.1 c.args.side c.one_more.result (told_of c.make-made.new.self.1 c.make-made.result) c.one_more.ensures c.make-made.ensures.step in
    (nobody_leaves c.args.self.now.2 c.make-made.new.self.2 c.make-made.result nobody c.make-made.ensures.leave, c.make-made.ensures.internal_pass)
