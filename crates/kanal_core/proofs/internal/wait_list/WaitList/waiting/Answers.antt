use Rattle.kanal_core.proofs.Common.{refl, sym, ap, ◌∙◌, inl, inr, subst, get, IsLinked, put_w}
use Rattle.kanal_core.proofs.Linking.{closes, walk_is}
use Rattle.kanal_core.proofs.Finding.{IsNotThere}
use Rattle.kanal_core.proofs.Changing.{linked_put, is_some_at, w_at, not_at}
use Rattle.kanal_core.proofs.internal.wait_list.WaitList.waiting.Goals as goal

pub w_mut-requires : goal.w_mut-requires
w_mut-requires g c = is_some_at c.args.ticket _ (sym c.if-not-is_at.ensures.value)

pub invariant_of-self-lent : goal.invariant_of-self-lent
invariant_of-self-lent g c w =
    let s = c.self.inside.slots.slab in
    let at = get s c.args.ticket.place in
    closes (put_w s c.args.ticket.place at w) _ _ _ (linked_put s c.self.inside.first c.self.inside.last _ c.args.ticket w at c.self.invariant refl (sym c.if-not-is_at.ensures.value))

pub returns : goal.returns
returns g c =
    let s = c.self.inside.slots.slab in
    let at = get s c.args.ticket.place in
    let h = subst (IsLinked s c.self.inside.first c.self.inside.last) c.self.view_is c.self.invariant in
    let same = sym c.if-not-is_at.ensures.value in (
      (λ i. inl (c.w_mut.result.ghost_name, λ w. walk_is (put_w s c.args.ticket.place at w) _ _ _ (linked_put s c.self.inside.first c.self.inside.last c.args.self.now c.args.ticket w at h refl same) i)),
      record {
        writes_back = tt;
        value = c.w_mut.ensures.value ∙ w_at s c.self.inside.first c.self.inside.last c.args.self.now c.args.ticket at h refl same;
      },
    )

missing : (g : _) (c : goal.Joined-steps g) → IsNotThere c.args.ticket c.args.self.now
missing g c = not_at c.self.inside.slots.slab _ _ c.args.self.now c.args.ticket (get c.self.inside.slots.slab c.args.ticket.place) (subst (IsLinked c.self.inside.slots.slab c.self.inside.first c.self.inside.last) c.self.view_is c.self.invariant) refl (sym c.if-not-is_at.ensures.value)

pub returns-then-not-is_at : goal.returns-then-not-is_at
returns-then-not-is_at g c = (ap inr c.self.view_is, record { writes_back = tt; value = rw (missing g c).nobody })
