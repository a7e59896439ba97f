use Rattle.kanal_core.proofs.Emptying.{emptied-receive, emptied-taken}
use Rattle.kanal_core.proofs.internal.leaving.Ended.taken.Goals as goal

pub invariant_of-result : goal.invariant_of-result
invariant_of-result g c = rw (c.take_all.ensures.out, c.move_messages.ensures.left) (emptied-receive c.args.waiters.now)

pub returns-clause-ended : goal.returns-clause-ended
returns-clause-ended g c = rw (← c.sender_first.ensures, c.if-not-sender_first.false, c.take_all.ensures.out, c.move_messages.ensures.left) (emptied-taken c.args.waiters.now)
