use Rattle.std.proofs.Common.{[], ◌∷◌, refl, ◌∙◌}
use Rattle.kanal_exchange.proofs.Telling.{tells_none, tells_more}
use Rattle.kanal_exchange.proofs.exchange.send_each.Goals as goal

pub loop-message-init : goal.loop-message-init
loop-message-init g c = (tells_none c.args.pass c.requires.fresh, refl)

pub loop-message-preserved : goal.loop-message-preserved
loop-message-preserved g c =
    let i = c.loop-message.invariant in
    let told = tells_more g.J.LogId.capacity c.loop-message.yielded [] (c.in-Some.message ∷ []) [] c.loop-message.pass c.in_ok-pass.pass i.0 c.in_ok-pass.ensures.put in
    (told.0, told.1 ∙ i.1)
