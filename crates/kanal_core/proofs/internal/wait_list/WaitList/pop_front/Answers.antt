use Rattle.kanal_core.proofs.Common.{sym, ◌∙◌, subst, IsLinked}
use Rattle.kanal_core.proofs.Finding.{popped}
use Rattle.kanal_core.proofs.internal.wait_list.WaitList.pop_front.Goals as goal

pub returns : goal.returns
returns g c =
    let h = subst (IsLinked c.self.inside.slots.slab c.self.inside.first c.self.inside.last) c.self.view_is c.self.invariant in
    popped c.args.self.now c.unlink.new.self c.in_ok-place.place c.unlink.result (sym h.begins ∙ c.in_ok-place.was) c.unlink.ensures.some c.unlink.ensures.none
