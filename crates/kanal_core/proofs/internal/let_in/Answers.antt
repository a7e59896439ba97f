use Rattle.std.proofs.Common.{rules}
use Rattle.kanal_core.proofs.internal.let_in.Goals as goal

pub returns-then-not-sender_first : goal.returns-then-not-sender_first
returns-then-not-sender_first g c = search rules
