use Rattle.std.proofs.Common.{rules}
use Rattle.kanal_script.proofs.printer.print_too_large.Goals as goal

pub returns : goal.returns
returns g c = search rules
