use Rattle.std.proofs.Common.{rules}
use Rattle.kanal_script.proofs.printer.print_reply.Goals as goal

pub returns-in-Withdrawn-Some : goal.returns-in-Withdrawn-Some
returns-in-Withdrawn-Some g c = search rules
