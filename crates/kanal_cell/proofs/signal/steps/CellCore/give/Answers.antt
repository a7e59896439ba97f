use Rattle.std.proofs.Common.{rules}
use Rattle.kanal_cell.proofs.signal.steps.CellCore.give.Goals as goal

pub returns-then-not-self-2-clause-given : goal.returns-then-not-self-2-clause-given
returns-then-not-self-2-clause-given c = search rules

pub returns-then-not-self-2-clause-state : goal.returns-then-not-self-2-clause-state
returns-then-not-self-2-clause-state c = search rules
