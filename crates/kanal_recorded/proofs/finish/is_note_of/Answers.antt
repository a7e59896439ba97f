use Rattle.std.proofs.Common.{rules}
use Rattle.kanal_recorded.proofs.finish.is_note_of.Goals as goal

pub returns-then-is_event : goal.returns-then-is_event
returns-then-is_event g c = search rules
