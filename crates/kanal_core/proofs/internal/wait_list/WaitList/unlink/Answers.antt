use Rattle.kanal_core.proofs.Common.{sym, ◌∙◌, slab_len, walk}
use Rattle.kanal_core.proofs.Linking.{unlink, Unlinked, closes, walk_is, free_if_empty, IsOneOut-at}
use Rattle.kanal_core.proofs.internal.wait_list.WaitList.unlink.Goals as goal

pub returns-in_default-clause-none : goal.returns-in_default-clause-none
returns-in_default-clause-none g c =
    let same = c.in_default.ensures.absent in
    let none = sym (c.self.invariant.holds c.args.place) ∙ sym c.try_remove.ensures.value ∙ c.in_default.is in
    (rw same c.self.view_is, rw (← c.self.view_is) (free_if_empty _ _ _ none))

out : (g : _) (c : goal.After-set_before g) → Unlinked c.set_before.new.slots.slab c.end_without-self-inside.result c.end_without-self-inside-2.result (walk (slab_len c.self.inside.slots.slab) c.self.inside.slots.slab c.self.inside.first) c.in-Some.slot c.args.place
out g c =
    unlink c.self.inside.slots.slab c.try_remove.new.self.slab c.set_after.new.slots.slab c.set_before.new.slots.slab c.self.inside.first c.self.inside.last
    _ _ (walk (slab_len c.self.inside.slots.slab) c.self.inside.slots.slab c.self.inside.first) c.in-Some.slot c.args.place
    c.self.invariant (sym c.in-Some.ensures.value) c.in-Some.ensures.updates c.in-Some.ensures.len
    c.set_after.ensures.slots c.set_after.ensures.len c.set_before.ensures.slots c.set_before.ensures.len
    c.end_without-self-inside.ensures c.end_without-self-inside-2.ensures

pub invariant_of-self-2 : goal.invariant_of-self-2
invariant_of-self-2 g c = closes c.set_before.new.slots.slab _ _ _ (out g c).linked

pub returns-clause-some : goal.returns-clause-some
returns-clause-some g c =
    let it = out g c in
    (it.place_is, IsOneOut-at _ _ _ _ _ it.out c.self.view_is (walk_is c.set_before.new.slots.slab _ _ _ it.linked))
