use Rattle.kanal_core.proofs.Common.{◌≡◌, sym, ◌∙◌, subst, IsLinked, waiter_of, without}
use Rattle.kanal_core.proofs.Finding.{IsNotThere, absent, replaced, found, removed, not_true, not_false}
use Rattle.kanal_core.proofs.internal.wait_list.WaitList.remove.Goals as goal

gone : (g : _) (c : goal.After-from_residual g) → IsNotThere c.args.ticket c.args.self.now
gone g c = absent c.self.inside.slots.slab _ _ c.args.self.now c.args.ticket (subst (IsLinked c.self.inside.slots.slab c.self.inside.first c.self.inside.last) c.self.view_is c.self.invariant) (sym c.in_err-slot.ensures.value)

pub returns-in_err-slot-clause-value : goal.returns-in_err-slot-clause-value
returns-in_err-slot-clause-value g c = c.from_residual.ensures ∙ sym (gone g c).nobody

pub returns-in_err-slot-clause-others : goal.returns-in_err-slot-clause-others
returns-in_err-slot-clause-others g c = sym (gone g c).others

other : (g : _) (c : goal.Then-ne g) → IsNotThere c.args.ticket c.args.self.now
other g c = replaced c.self.inside.slots.slab _ _ c.args.self.now c.args.ticket c.in_ok-slot.slot.now (subst (IsLinked c.self.inside.slots.slab c.self.inside.first c.self.inside.last) c.self.view_is c.self.invariant) (sym c.in_ok-slot.ensures.value) (not_true _ c.if-ne.ensures)

pub returns-then-ne-clause-value : goal.returns-then-ne-clause-value
returns-then-ne-clause-value g c = sym (other g c).nobody

pub returns-then-ne-clause-others : goal.returns-then-ne-clause-others
returns-then-ne-clause-others g c = sym (other g c).others

both : (g : _) (c : goal.After-unlink g) → (c.unlink.result ≡ waiter_of c.args.ticket c.args.self.now) × (c.unlink.new.self ≡ without c.args.ticket c.args.self.now)
both g c =
    let it = found c.self.inside.slots.slab _ _ c.args.self.now c.args.ticket c.in_ok-slot.slot.now (subst (IsLinked c.self.inside.slots.slab c.self.inside.first c.self.inside.last) c.self.view_is c.self.invariant) (sym c.in_ok-slot.ensures.value) (not_false _ c.if-ne.ensures) in
    removed c.args.ticket c.args.self.now c.unlink.new.self c.in_ok-slot.slot.now c.unlink.result it c.unlink.ensures.some c.unlink.ensures.none

pub returns-clause-value : goal.returns-clause-value
returns-clause-value g c = (both g c).0

pub returns-clause-others : goal.returns-clause-others
returns-clause-others g c = (both g c).1
