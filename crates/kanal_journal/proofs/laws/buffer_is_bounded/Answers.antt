use Rattle.kanal_journal.specs.Runs.{opening_account}
use Rattle.kanal_journal.proofs.Lawful.{full, holds-after}
use Rattle.kanal_journal.proofs.Rising.{bare-within}
use Rattle.kanal_journal.proofs.Standing.{capacity-along}
use Rattle.kanal_journal.proofs.laws.buffer_is_bounded.Goals as goal

pub returns-clause-full : goal.returns-clause-full
returns-clause-full g c a l = full c.args.capacity c.args.events.now a l

pub returns-clause-same : goal.returns-clause-same
returns-clause-same g c a l = capacity-along (opening_account c.args.capacity) a c.args.events.now l

pub returns-clause-bound : goal.returns-clause-bound
returns-clause-bound g c a l = bare-within a.line.capacity a.line.line (holds-after c.args.capacity c.args.events.now a l).seats
