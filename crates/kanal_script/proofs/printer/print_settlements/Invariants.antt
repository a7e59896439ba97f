use Rattle.kanal_script.proofs.Common.{take, Appends, settlements_text}
use Rattle.kanal_script.proofs.printer.print_settlements.Given as goal

-- the settlements so far are written
abbrev pub invariant-loop-settlement : goal.invariant-loop-settlement
invariant-loop-settlement g l = Appends (g.W.Write.contents l.initial.output) (g.W.Write.contents l.output) (settlements_text (take l.settlement-index l.settled))
