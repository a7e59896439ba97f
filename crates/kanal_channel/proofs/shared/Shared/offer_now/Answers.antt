use Rattle.kanal_channel.proofs.Common.{sym, subst, ◌∙◌, TrySend, IsAnswered, noted_answered, noted_settled}
use Rattle.kanal_channel.proofs.Backs.{refused_stays}
use Rattle.kanal_channel.proofs.shared.Shared.offer_now.Goals as goal

pub unlock_tried-requires : goal.unlock_tried-requires
unlock_tried-requires g c = record { seen = noted_settled g.H.History.relations g.met.H.History.sound c.args.pass.now c.call-made.new.pass (TrySend c.args.message) c.call-made.result c.call-made.ensures.noted }

pub returns-clause-kept : goal.returns-clause-kept
returns-clause-kept g c off =
    let w = g.H.History.relations in
    let old = c.args.pass.now in
    let new = c.call-made.new.pass in
    let message = c.args.message in
    let noted = noted_answered w old new (TrySend message) c.call-made.result c.call-made.ensures.noted in
    let answered = subst (IsAnswered w old new (TrySend message)) (sym c.unlock_tried.ensures.reply) noted in
    c.restored.ensures.back ∙ refused_stays w old new message c.unlock_tried.result answered (λ e. off (c.restored.ensures.answer ∙ e))
