use Rattle.kanal_channel.proofs.Common.{made_of, noted_replied, noted_settled, refused_replied}
use Rattle.kanal_channel.proofs.shared.Shared.start.Goals as goal

pub unlock_answered-requires : goal.unlock_answered-requires
unlock_answered-requires g c =
    record { seen = noted_settled g.H.History.relations g.met.H.History.sound c.args.pass.now c.start.new.pass c.args.event (made_of c.in-Ok.answered) c.in-Ok.ensures.tried.0 }

pub returns-in-Ok-clause-replied : goal.returns-in-Ok-clause-replied
returns-in-Ok-clause-replied g c =
    let tried = c.in-Ok.ensures.tried in
    let told = c.unlock_answered.ensures in
    noted_replied g.H.History.relations c.args.pass.now c.start.new.pass c.unlock_answered.new.pass c.args.event (made_of c.in-Ok.answered) c.unlock_answered.result tried.0 tried.1 told.same told.reply

pub returns-clause-replied : goal.returns-clause-replied
returns-clause-replied g c =
    let tried = c.in-Err.ensures.tried in
    rw c.open.ensures (refused_replied g.H.History.relations g.met.H.History.sound c.args.pass.now c.start.new.pass c.refuse-reply.new.pass c.args.event c.in-Err.event c.refuse-reply.result tried.1 tried.0 c.refuse-reply.ensures.made c.refuse-reply.ensures.clear)
