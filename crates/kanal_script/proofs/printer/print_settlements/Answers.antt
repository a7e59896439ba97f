use Rattle.std.proofs.Common.{arith}
use Rattle.kanal_script.proofs.Texts.{settlement_more}
use Rattle.kanal_script.proofs.printer.print_settlements.Goals as goal

pub loop-settlement-preserved : goal.loop-settlement-preserved
loop-settlement-preserved g c = settlement_more _ _ _ _ _ _ (omega arith) c.loop-settlement.invariant c.in_ok-print_settlement.ensures
