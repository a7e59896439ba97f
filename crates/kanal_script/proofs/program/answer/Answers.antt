use Rattle.std.proofs.Common.{rules}
use Rattle.kanal_script.proofs.program.answer.Goals as goal

pub returns-clause-ok : goal.returns-clause-ok
returns-clause-ok g c = search rules
