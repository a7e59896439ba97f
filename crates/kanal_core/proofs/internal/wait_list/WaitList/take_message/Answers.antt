use Rattle.kanal_core.proofs.Common.{None, sym, ◌∙◌, subst, IsLinked, TakesMessageAt, with_waiter}
use Rattle.kanal_core.proofs.Linking.{closes, free_if_empty, walk_is}
use Rattle.kanal_core.proofs.Changing.{Emptied, emptied_at}
use Rattle.kanal_core.proofs.internal.wait_list.WaitList.take_message.Goals as goal

pub unreachable-requires : goal.unreachable-requires
unreachable-requires g c =
    let h = subst (IsLinked c.self.inside.slots.slab c.self.inside.first c.self.inside.last) c.self.view_is c.self.invariant in
    c.requires (free_if_empty None c.args.self.now c.args.place (sym (h.holds c.args.place) ∙ sym c.in-None.ensures.value))

taken : (g : _) (c : goal.Joined-steps g) → Emptied c.self.inside.slots.slab c.self.inside.first c.self.inside.last c.args.place c.args.self.now c.in-Some.slot.now c.take-message.new.self
taken g c =
    let h = subst (IsLinked c.self.inside.slots.slab c.self.inside.first c.self.inside.last) c.self.view_is c.self.invariant in
    emptied_at c.self.inside.slots.slab c.self.inside.first c.self.inside.last c.args.place c.args.self.now c.in-Some.slot.now c.take-message.new.self h c.in-Some.ensures.value c.take-message.ensures.after

pub invariant_of-self : goal.invariant_of-self
invariant_of-self g c =
    let slot = c.in-Some.slot.now in
    closes (with_waiter c.self.inside.slots.slab c.args.place slot (record slot.waiter { message = c.take-message.new.self })) c.self.inside.first c.self.inside.last (taken g c).others (taken g c).linked

pub returns : goal.returns
returns g c =
    let slot = c.in-Some.slot.now in
    let it = taken g c in
    let now = walk_is (with_waiter c.self.inside.slots.slab c.args.place slot (record slot.waiter { message = c.take-message.new.self })) c.self.inside.first c.self.inside.last it.others it.linked in
    let P = λ (m : _). TakesMessageAt c.args.place c.args.self.now m slot.after it.others in
    let Q = λ (ws : _). TakesMessageAt c.args.place c.args.self.now c.take-message.result slot.after ws in
    subst Q (sym now) (subst P (sym c.take-message.ensures.value) it.takes)
