use Rattle.std.proofs.Common.{arith}
use Rattle.kanal_script.proofs.Texts.{message_more}
use Rattle.kanal_script.proofs.printer.print_messages.Goals as goal

pub loop-message-preserved : goal.loop-message-preserved
loop-message-preserved g c = message_more _ _ _ _ _ (omega arith) c.loop-message.invariant c.in_ok-write.ensures.bytes
