use Rattle.std.proofs.Common.{arith}
use Rattle.kanal_state.proofs.Leaving.{has_left, none_taken, waits_still}
use Rattle.kanal_state.proofs.state.State.withdraw_leavers.Goals as goal

pub returns-in_default-take_node : goal.returns-in_default-take_node
returns-in_default-take_node g c =
    let before = rw (← c.self-in-loop-count.view_is) at c.loop-count.invariant.1 in
    let waiters = c.self-in-loop-count.inside.core.waiters in
    let same = none_taken c.in-Some.ticket waiters c.take_node.new.core.waiters c.in_default-take_node.ensures.taken in
    record { left = rw same before }

pub unreachable-requires : goal.unreachable-requires
unreachable-requires g c =
    waits_still c.in-Some.ticket c.self-in-loop-count.inside.core.waiters c.take_node.new.core.waiters c.in-Some-take_node.ensures.taken
    c.in_default-withdraw_internal.ensures.waiter

pub loop-count-preserved : goal.loop-count-preserved
loop-count-preserved g c =
    let waiters = c.self-in-loop-count.inside.core.waiters in
    let before = rw (← c.self-in-loop-count.view_is) at c.loop-count.invariant.1 in
    let withdrawn = c.in-Some-withdraw_internal in
    let left = has_left c.in-Some.ticket waiters c.take_node.new.core.waiters c.in-Some-take_node.ensures.taken withdrawn.waiter
    withdrawn.ensures.waiter c.withdraw_internal.new.self.2 withdrawn.ensures.others in
    rw c.keep-leavers.ensures.kept (omega (arith, c.loop-count.invariant.0), (waiters, before, left))
