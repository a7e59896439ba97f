-- A walk along the links from the oldest waiter.
use Rattle.kanal_core.proofs.Common.{◌≡◌, ◌≢◌, ℕ, zero, suc, ◌+◌, ◌≤◌, Bool, true, false, List, [], ◌∷◌, ◌++◌, drop, length, Option, Some, None, refl, sym, ap, ◌∙◌, inl, inr, arith, subst, Slab, get, Waiter, Slot, Ticket, first_place, slot_for, IsFree, AreApart, IsLinked, IsFirstWhere, behind, same_ticket, waiter_of}
use Rattle.kanal_core.proofs.Finding.{IsNotThere, same_ticket-same, same_ticket-off, same_ticket-is, true_or_false}
use Rattle.kanal_core.proofs.Linking.{slot_for-here, slot_for-on, stands}

module _ {T W : Type 0} where
  IsFree-drop : (p : ℕ) (ws : List (Waiter T W)) (i : ℕ) (x : Waiter T W) (rest : List (Waiter T W)) → IsFree p ws → drop i ws ≡ x ∷ rest → p ≢ x.ticket.place
  IsFree-drop p [] zero x rest free is = absurd (cc)
  IsFree-drop p [] (suc i) x rest free is = absurd (cc)
  IsFree-drop p (y ∷ ys) zero x rest free is = let e : y ≡ x = cc in subst (λ (z : Waiter T W). p ≢ z.ticket.place) e free.0
  IsFree-drop p (y ∷ ys) (suc i) x rest free is = IsFree-drop p ys i x rest free.1 is

  -- the slot of the waiter at an index
  slot_at : (q : Option ℕ) (ws : List (Waiter T W)) (i : ℕ) (x : Waiter T W) (rest : List (Waiter T W)) → AreApart ws → drop i ws ≡ x ∷ rest → (before : Option ℕ) × (slot_for q ws x.ticket.place ≡ Some (record { waiter = x; before = before; after = first_place rest }))
  slot_at q [] zero x rest apart is = absurd (cc)
  slot_at q [] (suc i) x rest apart is = absurd (cc)
  slot_at q (y ∷ ys) zero x rest apart is = let e : y ≡ x = cc in let f : ys ≡ rest = cc in (q, rw (e, f) (slot_for-here q x rest x.ticket.place refl))
  slot_at q (y ∷ ys) (suc i) x rest apart is =
      let later = slot_at (Some y.ticket.place) ys i x rest apart.1 is in
      (later.0, slot_for-on q y ys x.ticket.place (λ e. IsFree-drop y.ticket.place ys i x rest apart.0 is (sym e)) ∙ later.1)

  -- the waiter at an index, by its place
  pub record StandsAt (ws : List (Waiter T W)) (i : ℕ) (slot : Slot T W) : Type 0 where
    pub cut : drop i ws ≡ slot.waiter ∷ drop (i + 1) ws
    pub after : slot.after ≡ first_place (drop (i + 1) ws)

  pub cut_at : (ws : List (Waiter T W)) (i place : ℕ) → Some place ≡ first_place (drop i ws) → (x : Waiter T W) × (x.ticket.place ≡ place) × (drop i ws ≡ x ∷ drop (suc i) ws)
  cut_at [] zero place is = absurd (cc)
  cut_at [] (suc i) place is = absurd (cc)
  cut_at (y ∷ ys) zero place is = (y, cc, refl)
  cut_at (y ∷ ys) (suc i) place is = cut_at ys i place is

  pub stands_at : (s : Slab (Slot T W)) (first last : Option ℕ) (ws : List (Waiter T W)) (i place : ℕ) (slot : Slot T W) → IsLinked s first last ws → Some place ≡ first_place (drop i ws) → get s place ≡ Some slot → StandsAt ws i slot
  stands_at s first last ws i place slot h at some =
      let cut = cut_at ws i place at in
      let here = slot_at None ws i cut.0 (drop (suc i) ws) h.apart cut.2 in
      let is : slot ≡ record { waiter = cut.0; before = here.0; after = first_place (drop (suc i) ws) } = by_some (sym some ∙ h.holds place ∙ ap (slot_for None ws) (sym cut.1) ∙ here.1) in
      let e : suc i ≡ i + 1 = omega arith in
      let next : drop i ws ≡ cut.0 ∷ drop (i + 1) ws = cut.2 ∙ ap (λ (n : ℕ). cut.0 ∷ drop n ws) e in
      rw is (record { cut = next; after = ap (λ (n : ℕ). first_place (drop n ws)) e })
    where
      by_some : {m n : Slot T W} → Some m ≡ Some n → m ≡ n
      by_some is = cc

  -- it is there
  pub is_there : (s : Slab (Slot T W)) (first last : Option ℕ) (ws : List (Waiter T W)) (i place : ℕ) → IsLinked s first last ws → Some place ≡ first_place (drop i ws) → get s place ≡ None → ⊥
  is_there s first last ws i place h at none =
      let cut = cut_at ws i place at in
      let here = slot_at None ws i cut.0 (drop (suc i) ws) h.apart cut.2 in
      let is = sym none ∙ h.holds place ∙ ap (slot_for None ws) (sym cut.1) ∙ here.1 in cc

  pub at_end : (says : W → Bool → Type 0) (ws : List (Waiter T W)) → None ≡ first_place ws → IsFirstWhere says ws None
  at_end says [] is = refl
  at_end says (x ∷ xs) is = absurd (cc)

  -- the first that is left passes
  pub passes_at : (says : W → Bool → Type 0) (ws : List (Waiter T W)) (i : ℕ) (slot : Slot T W) → StandsAt ws i slot → says slot.waiter.w true → IsFirstWhere says (drop i ws) (Some slot.waiter.ticket)
  passes_at says ws i slot at passes = rw at.cut (inl (passes, refl))

  -- it does not
  pub fails_at : (says : W → Bool → Type 0) (ws : List (Waiter T W)) (i : ℕ) (slot : Slot T W) → StandsAt ws i slot → says slot.waiter.w false → (r : Option Ticket) → IsFirstWhere says (drop (i + 1) ws) r → IsFirstWhere says (drop i ws) r
  fails_at says ws i slot at fails r rest = rw at.cut (inr (fails, rest))

  -- past the end nobody is left
  pub past : (n : ℕ) (ws : List (Waiter T W)) → length ws ≤ n → drop n ws ≡ []
  past zero [] h = refl
  past (suc n) [] h = refl
  past zero (x ∷ xs) h = absurd (omega (arith, h))
  past (suc n) (x ∷ xs) h = past n xs (omega (arith, h))

  behind-found : (t : Ticket) (a : List (Waiter T W)) (x : Waiter T W) (b : List (Waiter T W)) → t ≡ x.ticket → IsFree t.place a → behind t (a ++ x ∷ b) ≡ b
  behind-found t [] x b is free = let e = same_ticket-same x.ticket in rw (is, e)
  behind-found t (y ∷ a) x b is free = let e = same_ticket-off t y.ticket free.0 in rw e (behind-found t a x b is free.1)

  dropped : (a : List (Waiter T W)) (x : Waiter T W) (b : List (Waiter T W)) → drop (suc (length a)) (a ++ x ∷ b) ≡ b
  dropped [] x b = refl
  dropped (y ∷ a) x b = dropped a x b

  -- those behind a ticket begin at the place that its slot names
  pub record GoesOn (t : Ticket) (ws : List (Waiter T W)) (after : Option ℕ) : Type 0 where
    pub index : ℕ
    pub rest : behind t ws ≡ drop index ws
    pub place : after ≡ first_place (drop index ws)

  pub goes_on : (s : Slab (Slot T W)) (first last : Option ℕ) (ws : List (Waiter T W)) (t : Ticket) (slot : Slot T W) → IsLinked s first last ws → get s t.place ≡ Some slot → same_ticket slot.waiter.ticket t ≡ true → GoesOn t ws slot.after
  goes_on s first last ws t slot h some same =
      let at = stands None ws t.place slot (sym (h.holds t.place) ∙ some) in
      let is = same_ticket-is slot.waiter.ticket t same in
      let cut : drop (suc (length at.front)) ws ≡ at.back = ap (λ zs. drop (suc (length at.front)) zs) at.is ∙ dropped at.front slot.waiter at.back in
      record {
        index = suc (length at.front);
        rest = ap (behind t) at.is ∙ behind-found t at.front slot.waiter at.back is at.free ∙ sym cut;
        place = at.after ∙ ap first_place (sym cut);
      }

  behind-free : (t : Ticket) (ws : List (Waiter T W)) → waiter_of t ws ≡ None → behind t ws ≡ []
  behind-free t [] none = refl
  behind-free t (x ∷ xs) none =
      elim (true_or_false (same_ticket x.ticket t)) [
        | inl e ↦ absurd (cc (rw e at none))
        | inr e ↦ rw e (behind-free t xs (rw e at none))
      ]

  -- nobody is behind a ticket that doesn't wait
  pub none_behind : (says : W → Bool → Type 0) (t : Ticket) (ws : List (Waiter T W)) → IsNotThere t ws → IsFirstWhere says (behind t ws) None
  none_behind says t ws gone = rw (behind-free t ws gone.nobody) refl
