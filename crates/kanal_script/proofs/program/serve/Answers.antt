use Rattle.std.proofs.Common.{rules, sym, ◌∙◌}
use Rattle.kanal_script.proofs.Faults.{unreadable_at_two}
use Rattle.kanal_script.proofs.program.serve.Goals as goal

pub returns-in-Ok-clause-unreadable : goal.returns-in-Ok-clause-unreadable
returns-in-Ok-clause-unreadable g c = search rules

pub returns-in-Err-clause-first : goal.returns-in-Err-clause-first
returns-in-Err-clause-first g c = λ two. unreadable_at_two (g.R.Read.remaining c.args.input.now) c.in-Err.fault (sym c.status.ensures ∙ two) c.in-Err.ensures.fault
