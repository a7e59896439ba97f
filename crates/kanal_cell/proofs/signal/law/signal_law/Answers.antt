use Rattle.kanal_cell.proofs.CellSecond.{second_holds}
use Rattle.kanal_cell.proofs.CellSlots.{slot_law}
use Rattle.kanal_cell.proofs.CellOutcome.{outcome_slot}
use Rattle.kanal_cell.proofs.signal.law.signal_law.Goals as goal

pub returns-clause-second : goal.returns-clause-second
returns-clause-second g c = second_holds

pub returns-clause-slots : goal.returns-clause-slots
returns-clause-slots g c = slot_law

pub returns-clause-outcome_slot : goal.returns-clause-outcome_slot
returns-clause-outcome_slot g c = outcome_slot
