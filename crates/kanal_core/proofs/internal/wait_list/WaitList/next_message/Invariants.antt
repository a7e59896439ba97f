use Rattle.kanal_core.proofs.Common.{◌≡◌, length, brought}
use Rattle.kanal_core.proofs.internal.wait_list.WaitList.next_message.Given as goal

-- those that left brought nothing
abbrev pub invariant-loop-waiter : goal.invariant-loop-waiter
invariant-loop-waiter g l = brought l.self ≡ brought l.fn.self

abbrev pub decreases-loop-waiter : goal.decreases-loop-waiter
decreases-loop-waiter g l = length l.self
