use Rattle.kanal_script.proofs.Texts.{IsPrintedTo}
use Rattle.kanal_script.proofs.program.write_pieces.Given as goal

-- what is written, and what is still to write, are the text
abbrev pub invariant-loop : goal.invariant-loop
invariant-loop g l = IsPrintedTo (g.W.Write.contents l.fn.output) (g.W.Write.contents l.output) l.rest l.text
