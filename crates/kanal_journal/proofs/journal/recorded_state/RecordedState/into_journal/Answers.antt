use Rattle.std.proofs.Common.{rules}
use Rattle.kanal_journal.proofs.Replaying.{replays-leads, replays-paired}
use Rattle.kanal_journal.proofs.journal.recorded_state.RecordedState.into_journal.Goals as goal

pub returns-clause-paired : goal.returns-clause-paired
returns-clause-paired g c = replays-paired c.args.self (search rules)

pub returns-clause-journal : goal.returns-clause-journal
returns-clause-journal g c = search rules

pub returns-clause-leads : goal.returns-clause-leads
returns-clause-leads g c = let k = c.args.self in replays-leads k.capacity k.entries k.account (search rules)
