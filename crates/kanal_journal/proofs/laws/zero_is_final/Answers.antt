use Rattle.std.proofs.Common.{rules}
use Rattle.kanal_journal.proofs.Standing.{zero-along}
use Rattle.kanal_journal.proofs.laws.zero_is_final.Goals as goal

pub returns-clause-senders : goal.returns-clause-senders
returns-clause-senders g c a b l later k = (zero-along a b later k).0

pub returns-clause-receivers : goal.returns-clause-receivers
returns-clause-receivers g c a b l later k = (zero-along a b later k).1

pub returns-clause-refused : goal.returns-clause-refused
returns-clause-refused g c = search rules
