use Rattle.kanal_exchange.proofs.Common.{rules, ◌≡◌, [], ◌∷◌, subst, Exchanges}
use Rattle.kanal_exchange.proofs.pipeline.hand_on.Goals as goal

pub returns : goal.returns
returns g c =
    let message = c.in_ok-message.message in
    let made = c.in_ok-made.made in
    let came = c.in_ok-message.ensures.got in
    let went = c.in_ok-send.ensures.put in
    let is : made ≡ g.S.Stage.value c.args.stage.now message = search rules in
    record { handed = record { message = message; came = came; went = subst (λ m. Exchanges g.K.LogId.capacity c.args.tells.now c.send.new.pass (m ∷ []) []) is went } }
