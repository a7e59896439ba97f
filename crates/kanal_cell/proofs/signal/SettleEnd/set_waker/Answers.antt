use Rattle.std.proofs.Common.{rules}
use Rattle.kanal_cell.proofs.signal.SettleEnd.set_waker.Goals as goal

pub returns-clause-displaced : goal.returns-clause-displaced
returns-clause-displaced g c = search rules

pub returns-clause-kept : goal.returns-clause-kept
returns-clause-kept g c = search rules
