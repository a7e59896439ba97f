use Rattle.std.proofs.Common.{rules}
use Rattle.kanal_core.proofs.internal.outcome.Ticket.number.Goals as goal

pub returns : goal.returns
returns c = search rules
