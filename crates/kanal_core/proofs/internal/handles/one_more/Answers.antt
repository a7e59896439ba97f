use Rattle.std.proofs.Common.{rules}
use Rattle.kanal_core.proofs.internal.handles.one_more.Goals as goal

pub returns-then-count-eq0-clause-more : goal.returns-then-count-eq0-clause-more
returns-then-count-eq0-clause-more c = search rules
