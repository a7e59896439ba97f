use Rattle.std.proofs.Common.{rules}
use Rattle.kanal_core.proofs.internal.ChannelInternal.add_receiver.Goals as goal

pub returns-in_err-self-inside-clause-most : goal.returns-in_err-self-inside-clause-most
returns-in_err-self-inside-clause-most g c = search rules

pub invariant_of-self : goal.invariant_of-self
invariant_of-self g c = search rules

pub returns-clause-raised : goal.returns-clause-raised
returns-clause-raised g c = search rules

pub returns-clause-most : goal.returns-clause-most
returns-clause-most g c = search rules

pub returns-clause-gone : goal.returns-clause-gone
returns-clause-gone g c = search rules
