use Rattle.kanal_core.proofs.Common.{◌≡◌, ◌+◌, None, drop, refl, sym, ap, subst, ◌∙◌, arith, FnReturnsAt, IsLinked, first_place, IsFirstWhere}
use Rattle.kanal_core.proofs.Walks.{stands_at, is_there, passes_at, fails_at, at_end, past}
use Rattle.kanal_core.proofs.internal.wait_list.WaitList.first_from.Goals as goal

pub returns-in_default-get : goal.returns-in_default-get
returns-in_default-get g c =
    let h = subst (IsLinked c.self.inside.slots.slab c.self.inside.first c.self.inside.last) c.self.view_is c.self.invariant in
    λ i begins. absurd (is_there c.self.inside.slots.slab _ _ c.args.self.now (i + c.loop.counter) c.in-Some.place h (sym c.in-Some.is ∙ (c.loop.invariant i begins).0) (sym c.in_default-get.ensures.value))

pub returns-then-passes : goal.returns-then-passes
returns-then-passes g c =
    let h = subst (IsLinked c.self.inside.slots.slab c.self.inside.first c.self.inside.last) c.self.view_is c.self.invariant in
    λ i begins.
    let inv = c.loop.invariant i begins in
    let at = stands_at c.self.inside.slots.slab _ _ c.args.self.now (i + c.loop.counter) c.in-Some.place c.in-Some-get.slot.now h (sym c.in-Some.is ∙ inv.0) (sym c.in-Some-get.ensures.value) in
    inv.1 _ (passes_at (FnReturnsAt g.F.Fn c.args.test) c.args.self.now (i + c.loop.counter) c.in-Some-get.slot.now at c.if-passes.ensures)

pub loop-preserved : goal.loop-preserved
loop-preserved g c =
    let h = subst (IsLinked c.self.inside.slots.slab c.self.inside.first c.self.inside.last) c.self.view_is c.self.invariant in
    λ i begins.
    let n = i + c.loop.counter in
    let inv = c.loop.invariant i begins in
    let at = stands_at c.self.inside.slots.slab _ _ c.args.self.now n c.in-Some.place c.in-Some-get.slot.now h (sym c.in-Some.is ∙ inv.0) (sym c.in-Some-get.ensures.value) in
    let next : n + 1 ≡ i + (c.loop.counter + 1) = omega arith in (
      at.after ∙ ap (λ k. first_place (drop k c.args.self.now)) next,
      λ r rest. inv.1 r (fails_at (FnReturnsAt g.F.Fn c.args.test) c.args.self.now n c.in-Some-get.slot.now at c.if-passes.ensures r (subst (λ k. IsFirstWhere (FnReturnsAt g.F.Fn c.args.test) (drop k c.args.self.now) r) (sym next) rest)),
    )

pub returns-in_default : goal.returns-in_default
returns-in_default g c =
    λ i begins.
    let inv = c.loop.invariant i begins in
    inv.1 None (at_end (FnReturnsAt g.F.Fn c.args.test) (drop (i + c.loop.counter) c.args.self.now) (sym c.in_default.is ∙ inv.0))

pub returns : goal.returns
returns g c =
    let h = subst (IsLinked c.self.inside.slots.slab c.self.inside.first c.self.inside.last) c.self.view_is c.self.invariant in
    λ i begins.
    let n = i + c.loop.counter in
    let end = past n c.args.self.now (omega (arith, c.loop-test.false, c.len-end.ensures, h.count)) in
    (c.loop.invariant i begins).1 None (subst (λ ws. IsFirstWhere (FnReturnsAt g.F.Fn c.args.test) ws None) (sym end) refl)

pub loop-init : goal.loop-init
loop-init g c =
    λ i begins.
    let e : i ≡ i + 0 = omega arith in (
      begins ∙ ap (λ k. first_place (drop k c.args.self.now)) e,
      λ r rest. subst (λ k. IsFirstWhere (FnReturnsAt g.F.Fn c.args.test) (drop k c.args.self.now) r) (sym e) rest,
    )
