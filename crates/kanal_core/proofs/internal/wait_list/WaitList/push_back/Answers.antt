use Rattle.kanal_core.proofs.Common.{[], ◌∷◌, ◌++◌, Some, refl, sym, ◌∙◌, subst, IsLinked}
use Rattle.kanal_core.proofs.Linking.{Updates-at, IsLinked-slots, linked_on, closes, walk_is}
use Rattle.kanal_core.proofs.internal.wait_list.WaitList.push_back.Goals as goal

pub invariant_of-self : goal.invariant_of-self
invariant_of-self g c = closes c.reserve.new.self.slab _ _ _ (IsLinked-slots c.self.inside.slots.slab c.reserve.new.self.slab _ _ _ c.reserve.ensures.slots c.self.invariant)

pub returns-then-is_err-clause-refused : goal.returns-then-is_err-clause-refused
returns-then-is_err-clause-refused g c =
    (refl, refl, walk_is c.reserve.new.self.slab _ _ _ (IsLinked-slots c.self.inside.slots.slab c.reserve.new.self.slab _ _ _ c.reserve.ensures.slots c.self.invariant) ∙ c.self.view_is)

now : (g : _) (c : goal.Joined-steps-2 g) → IsLinked c.set_after.new.slots.slab c.end_with-self-inside.result (Some c.vacant_place-place.result) (c.args.self.now ++ record { ticket = record { number = c.args.number; place = c.vacant_place-place.result }; message = c.args.message; w = c.args.w } ∷ [])
now g c =
    let h = IsLinked-slots c.self.inside.slots.slab c.reserve.new.self.slab c.self.inside.first c.self.inside.last c.args.self.now c.reserve.ensures.slots (subst (IsLinked c.self.inside.slots.slab c.self.inside.first c.self.inside.last) c.self.view_is c.self.invariant) in
    linked_on c.reserve.new.self.slab c.insert.new.self.slab c.set_after.new.slots.slab c.self.inside.first c.self.inside.last c.end_with-self-inside.result c.args.self.now
    (record { ticket = record { number = c.args.number; place = c.vacant_place-place.result }; message = c.args.message; w = c.args.w }) h c.vacant_place-place.ensures.vacant
    (Updates-at c.reserve.new.self.slab c.insert.new.self.slab _ _ _ (sym c.vacant_place-place.ensures.value) c.insert.ensures.updates)
    c.insert.ensures.len c.set_after.ensures.slots c.set_after.ensures.len c.end_with-self-inside.ensures

pub invariant_of-self-2 : goal.invariant_of-self-2
invariant_of-self-2 g c = closes c.set_after.new.slots.slab _ _ _ (now g c)

pub returns-clause-ok : goal.returns-clause-ok
returns-clause-ok g c = (refl, walk_is c.set_after.new.slots.slab _ _ _ (now g c))
