use Rattle.kanal_script.proofs.Common.{take, Appends, messages_text}
use Rattle.kanal_script.proofs.printer.print_messages.Given as goal

-- the messages so far are written
abbrev pub invariant-loop-message : goal.invariant-loop-message
invariant-loop-message g l = Appends (g.W.Write.contents l.initial.output) (g.W.Write.contents l.output) (messages_text (take l.message-index l.messages))
