use Rattle.kanal_state.proofs.Common.{sym, subst, line_of, told_of, Tells}
use Rattle.kanal_state.proofs.state.State.drain.Goals as goal

pub note_made-requires : goal.note_made-requires
note_made-requires g c =
    let old = line_of c.self.inside.core in
    let new = line_of c.drain-made.new.core in
    let told = subst (λ e. Tells old e (told_of new c.drain-made.result)) (sym c.of-asked.ensures) c.drain-made.ensures.told in
    record { told = (old, new, c.self.invariant, told) }

pub returns-clause-memory : goal.returns-clause-memory
returns-clause-memory g c lacking = (line_of c.self.inside.core, c.note_made.ensures.ends lacking (line_of c.self.inside.core) c.self.invariant, c.drain-made.ensures.memory lacking)
