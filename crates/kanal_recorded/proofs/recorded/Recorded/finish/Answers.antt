use Rattle.std.proofs.Common.{sym}
use Rattle.kanal_recorded.proofs.Merged.{counted}
use Rattle.kanal_recorded.proofs.recorded.Recorded.finish.Goals as goal

pub returns-in-Ok-clause-count : goal.returns-in-Ok-clause-count
returns-in-Ok-clause-count g c = counted c.in-Ok.journal.entries.items c.args.passes.items (rw (sym c.as_slice.ensures.value) c.in-Ok.ensures.finished.merged)
