use Rattle.kanal_events.proofs.Common.{◌≡◌, ◌++◌, map, inl, subst, sym, line_of, settlement, messages, Drain, Tells}
use Rattle.kanal_events.specs.StepResult.{told_of}
use Rattle.kanal_events.proofs.Draining.{drain_told}
use Rattle.kanal_events.proofs.Giving.{none-drained}
use Rattle.kanal_events.proofs.steps.drain.Goals as goal

pub returns-in-Ok-clause-told : goal.returns-in-Ok-clause-told
returns-in-Ok-clause-told g c =
    let k = c.in-Ok.ensures in
    let before = c.of-before.result.value.items in
    let after = c.of-after.result.value.items in
    let moved : after ≡ before ++ messages (line_of c.args.core.now).line = rw (c.of-after.ensures, c.of-before.ensures) k.moved in
    let l = line_of c.args.core.now in
    let told = drain_told l (line_of c.drain_into.new.self) (map settlement c.in-Ok.ended) c.in-Ok.count before after (λ gone. let wrong = k.receiver.1 gone in absurd (cc (wrong, c.in-Ok.is))) k.step k.count moved in
    subst (λ m. Tells l Drain (told_of (line_of c.drain_into.new.self) m)) (sym c.drained.ensures) (inl told)

pub returns-in-Ok-clause-tickets : goal.returns-in-Ok-clause-tickets
returns-in-Ok-clause-tickets g c = none-drained c.args.core.now c.drain_into.new.self c.in-Ok.ensures.after
