use Rattle.kanal_events.proofs.Leaving.{sealed_leaves}
use Rattle.kanal_events.proofs.steps.seal.Goals as goal

pub returns-in-Ok : goal.returns-in-Ok
returns-in-Ok g c =
    let k = c.in-Ok.ensures in
    rw c.all.ensures (sealed_leaves c.args.core.now c.seal.new.self _ c.in-Ok.ended (λ none. let wrong = k.sealed.1 none in absurd (cc (wrong, c.in-Ok.is))) k.step k.after k.ended)
