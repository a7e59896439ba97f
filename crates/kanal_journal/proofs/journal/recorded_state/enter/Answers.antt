use Rattle.std.proofs.Common.{rules}
use Rattle.kanal_journal.proofs.journal.recorded_state.enter.Goals as goal

pub returns : goal.returns
returns g c = search rules
