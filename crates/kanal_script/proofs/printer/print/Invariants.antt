use Rattle.kanal_script.proofs.Common.{drop, replies_text, report_text}
use Rattle.kanal_script.proofs.Texts.{IsPrintedTo}
use Rattle.kanal_script.proofs.printer.print.Given as goal

-- what is written, and what the replies from here on print, are the report
abbrev pub invariant-loop-step : goal.invariant-loop-step
invariant-loop-step g l = IsPrintedTo (g.W.Write.contents l.initial.output) (g.W.Write.contents l.output) (replies_text l.step (drop l.step l.reply-items) l.messages.drained.now l.messages.cleared.now l.settled) (report_text l.report)
