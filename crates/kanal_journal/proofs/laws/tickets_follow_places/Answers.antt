use Rattle.kanal_core.specs.Line.{tickets}
use Rattle.kanal_journal.proofs.Lawful.{holds-after}
use Rattle.kanal_journal.proofs.Rising.{rise-first, rise-last, ordered, waits-by-place}
use Rattle.kanal_journal.proofs.laws.tickets_follow_places.Goals as goal

pub returns-clause-places : goal.returns-clause-places
returns-clause-places g c a l = waits-by-place a.line.capacity a.line.line (holds-after c.args.capacity c.args.events.now a l).seats

pub returns-clause-line : goal.returns-clause-line
returns-clause-line g c a l = rise-first 0 (tickets a.line.line) a.line.demands a.line.next (ordered c.args.capacity c.args.events.now a l).waits

pub returns-clause-demands : goal.returns-clause-demands
returns-clause-demands g c a l = rise-last 0 (tickets a.line.line) a.line.demands a.line.next (ordered c.args.capacity c.args.events.now a l).waits

pub returns-clause-settled : goal.returns-clause-settled
returns-clause-settled g c a l step = (ordered c.args.capacity c.args.events.now a l).settled step
