use Rattle.kanal_core.proofs.Common.{sym, subst, FnReturnsAt, IsLinked, IsFirstWhere, behind}
use Rattle.kanal_core.proofs.Finding.{absent, replaced, not_true, not_false}
use Rattle.kanal_core.proofs.Walks.{goes_on, none_behind}
use Rattle.kanal_core.proofs.internal.wait_list.WaitList.next_waiter.Goals as goal

pub returns-in_err-slot : goal.returns-in_err-slot
returns-in_err-slot g c =
    let h = subst (IsLinked c.self.inside.slots.slab c.self.inside.first c.self.inside.last) c.self.view_is c.self.invariant in
    let gone = absent c.self.inside.slots.slab _ _ c.args.self.now c.args.ticket h (sym c.in_err-slot.ensures.value) in
    subst (λ r. IsFirstWhere (FnReturnsAt g.F.Fn c.args.test) (behind c.args.ticket c.args.self.now) r) (sym c.from_residual.ensures) (none_behind (FnReturnsAt g.F.Fn c.args.test) c.args.ticket c.args.self.now gone)

pub returns-then-ne : goal.returns-then-ne
returns-then-ne g c =
    let h = subst (IsLinked c.self.inside.slots.slab c.self.inside.first c.self.inside.last) c.self.view_is c.self.invariant in
    let gone = replaced c.self.inside.slots.slab _ _ c.args.self.now c.args.ticket c.in_ok-slot.slot.now h (sym c.in_ok-slot.ensures.value) (not_true _ c.if-ne.ensures) in
    none_behind (FnReturnsAt g.F.Fn c.args.test) c.args.ticket c.args.self.now gone

pub returns : goal.returns
returns g c =
    let h = subst (IsLinked c.self.inside.slots.slab c.self.inside.first c.self.inside.last) c.self.view_is c.self.invariant in
    let on = goes_on c.self.inside.slots.slab _ _ c.args.self.now c.args.ticket c.in_ok-slot.slot.now h (sym c.in_ok-slot.ensures.value) (not_false _ c.if-ne.ensures) in
    subst (λ ws. IsFirstWhere (FnReturnsAt g.F.Fn c.args.test) ws c.first_from.result) (sym on.rest) (c.first_from.ensures on.index on.place)
