use Rattle.kanal_core.proofs.Common.{subst, IsLinked}
use Rattle.kanal_core.proofs.internal.wait_list.WaitList.first_waiter.Goals as goal

pub returns : goal.returns
returns g c =
    let h = subst (IsLinked c.self.inside.slots.slab c.self.inside.first c.self.inside.last) c.self.view_is c.self.invariant in
    c.first_from.ensures 0 h.begins
