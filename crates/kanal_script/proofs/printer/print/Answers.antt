use Rattle.std.proofs.Common.{arith}
use Rattle.kanal_script.proofs.Texts.{step_cut}
use Rattle.kanal_script.proofs.printer.print.Goals as goal

pub loop-step-preserved : goal.loop-step-preserved
loop-step-preserved g c = step_cut _ _ _ _ _ _ _ _ _ _ _ _ _ _ _ _ _ (omega arith) c.take.ensures.own c.take.ensures.drained c.take.ensures.cleared c.count_settled.ensures.count c.split_at.ensures.front c.split_at.ensures.back c.loop-step.invariant c.in_ok-print_reply.ensures c.in_ok-print_settlements.ensures
