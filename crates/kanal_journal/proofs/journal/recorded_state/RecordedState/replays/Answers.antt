use Rattle.std.proofs.Common.{rules}
use Rattle.kanal_journal.proofs.Replaying.{replays-leads, replays-paired, replays-left}
use Rattle.kanal_journal.proofs.journal.recorded_state.RecordedState.replays.Goals as goal

pub returns-clause-paired : goal.returns-clause-paired
returns-clause-paired g c = replays-paired c.args.self.now (search rules)

pub returns-clause-left : goal.returns-clause-left
returns-clause-left g c = replays-left c.args.self.now (search rules)

pub returns-clause-leads : goal.returns-clause-leads
returns-clause-leads g c = let k = c.args.self.now in replays-leads k.capacity k.entries k.account (search rules)
