-- One waiter in linked slots is changed, and stays at its place.
use Rattle.kanal_core.proofs.Common.{◌≡◌, ◌≢◌, ℕ, true, false, List, [], ◌∷◌, ◌++◌, Option, Some, None, IsSome, inl, inr, refl, sym, ap, ◌∙◌, arith, subst, length-append, option_map, cases_eq, Slab, get, slab_len, with_value, Ticket, Waiter, Slot, first_place, last_place, slot_for, IsFree, AreApart, IsLinked, TakesMessageAt, has_ticket, put_w, with_waiter, emptied, waiter_of, with_w}
use Rattle.std.proofs.lemmas.Grind.{common_steps}
use Rattle.slab.proofs.SlabLemmas.{Updates-with_value}
use Rattle.kanal_core.proofs.Linking.{AreApart-out, IsFree-parts, slot_for-here, slot_for-on, stands}
use Rattle.kanal_core.proofs.Finding.{IsNotThere, absent, found, replaced}

by_some : {X : Type 0} {m n : X} → Some m ≡ Some n → m ≡ n
by_some is = cc

module _ {T W : Type 0} where
  slab_len-with_value : (s : Slab (Slot T W)) (key : ℕ) (old new : Slot T W) → get s key ≡ Some old → slab_len (with_value s key new) ≡ slab_len s
  slab_len-with_value s key old new found = grind (arith, common_steps)

  module _ (x y : Waiter T W) (b : List (Waiter T W)) (e : y.ticket.place ≡ x.ticket.place) where
    first_place-changed : (a : List (Waiter T W)) → first_place (a ++ y ∷ b) ≡ first_place (a ++ x ∷ b)
    first_place-changed [] = ap (λ (n : ℕ). Some n) e
    first_place-changed (z ∷ a) = refl

    last_place-changed : (q : Option ℕ) (a : List (Waiter T W)) → last_place q (a ++ y ∷ b) ≡ last_place q (a ++ x ∷ b)
    last_place-changed q [] = ap (λ (n : ℕ). last_place (Some n) b) e
    last_place-changed q (z ∷ a) = last_place-changed (Some z.ticket.place) a

    IsFree-changed : (p : ℕ) (a : List (Waiter T W)) → IsFree p (a ++ x ∷ b) → IsFree p (a ++ y ∷ b)
    IsFree-changed p [] free = (λ is. free.0 (is ∙ e), free.1)
    IsFree-changed p (z ∷ a) free = (free.0, IsFree-changed p a free.1)

    AreApart-changed : (a : List (Waiter T W)) → AreApart (a ++ x ∷ b) → AreApart (a ++ y ∷ b)
    AreApart-changed [] apart = (subst (λ (n : ℕ). IsFree n b) (sym e) apart.0, apart.1)
    AreApart-changed (z ∷ a) apart = (IsFree-changed z.ticket.place a apart.0, AreApart-changed a apart.1)

    slot_for-other : (q : Option ℕ) (a : List (Waiter T W)) (p : ℕ) → p ≢ x.ticket.place → slot_for q (a ++ y ∷ b) p ≡ slot_for q (a ++ x ∷ b) p
    slot_for-other q [] p off = slot_for-on q y b p (λ is. off (is ∙ e)) ∙ ap (λ (n : ℕ). slot_for (Some n) b p) e ∙ sym (slot_for-on q x b p off)
    slot_for-other q (z ∷ a) p off =
        elim (cases_eq p z.ticket.place) [
          | inl same ↦ slot_for-here q z (a ++ y ∷ b) p same ∙ rw (first_place-changed a) (sym (slot_for-here q z (a ++ x ∷ b) p same))
          | inr differs ↦ slot_for-on q z (a ++ y ∷ b) p differs ∙ slot_for-other (Some z.ticket.place) a p off ∙ sym (slot_for-on q z (a ++ x ∷ b) p differs)
        ]

    slot_for-own : (q : Option ℕ) (a : List (Waiter T W)) (p : ℕ) (slot : Slot T W) → p ≡ x.ticket.place → IsFree p a → slot_for q (a ++ x ∷ b) p ≡ Some slot → slot_for q (a ++ y ∷ b) p ≡ Some (record slot { waiter = y })
    slot_for-own q [] p slot at free some =
        let is : slot ≡ record { waiter = x; before = q; after = first_place b } = by_some (sym some ∙ slot_for-here q x b p at) in
        rw is (slot_for-here q y b p (at ∙ sym e))
    slot_for-own q (z ∷ a) p slot at free some =
        slot_for-on q z (a ++ y ∷ b) p free.0 ∙ slot_for-own (Some z.ticket.place) a p slot at free.1 (sym (slot_for-on q z (a ++ x ∷ b) p free.0) ∙ some)

    -- the slots hold the changed waiter among the others
    pub linked_changed : (s : Slab (Slot T W)) (first last : Option ℕ) (a : List (Waiter T W)) (p : ℕ) (slot : Slot T W) → p ≡ x.ticket.place → IsFree p a → get s p ≡ Some slot → IsLinked s first last (a ++ x ∷ b) → IsLinked (with_waiter s p slot y) first last (a ++ y ∷ b)
    linked_changed s first last a p slot at free some h =
        let new = record slot { waiter = y } in
        let updates = Updates-with_value s p new (rw some refl) in
        record {
          holds = λ r. elim (cases_eq r p) [
            | inl same ↦ ap (get (with_value s p new)) same ∙ updates.changed ∙ sym (slot_for-own None a p slot at free (sym (h.holds p) ∙ some)) ∙ ap (slot_for None (a ++ y ∷ b)) (sym same)
            | inr off ↦ updates.others r off ∙ h.holds r ∙ sym (slot_for-other None a r (λ is. off (is ∙ sym at)))
          ];
          apart = AreApart-changed a h.apart;
          begins = h.begins ∙ sym (first_place-changed a);
          ends = h.ends ∙ sym (last_place-changed None a);
          count = slab_len-with_value s p slot new some ∙ h.count ∙ length-append a (x ∷ b) ∙ sym (length-append a (y ∷ b));
        }

  -- another W for a ticket
  pub linked_put : (s : Slab (Slot T W)) (first last : Option ℕ) (ws : List (Waiter T W)) (t : Ticket) (w : W) (o : Option (Slot T W)) → IsLinked s first last ws → get s t.place ≡ o → has_ticket t o ≡ true → IsLinked (put_w s t.place o w) first last (with_w t w ws)
  linked_put s first last ws t w None h at same = absurd (cc)
  linked_put s first last ws t w (Some slot) h at same =
      let f = found s first last ws t slot h at same in
      let new = record slot.waiter { w = w } in
      let is : with_w t w ws ≡ f.front ++ new ∷ f.back = ap (with_w t w) f.is ∙ f.there.changed w in
      subst
      (IsLinked (with_waiter s t.place slot new) first last)
      (sym is)
      (linked_changed slot.waiter new f.back refl s first last f.front t.place slot (ap (λ (u : Ticket). u.place) f.ticket) f.free at (subst (IsLinked s first last) f.is h))

  pub is_some_at : (t : Ticket) (o : Option (Slot T W)) → has_ticket t o ≡ true → IsSome o
  is_some_at t None same = absurd (cc)
  is_some_at t (Some slot) same = refl

  pub w_at : (s : Slab (Slot T W)) (first last : Option ℕ) (ws : List (Waiter T W)) (t : Ticket) (o : Option (Slot T W)) → IsLinked s first last ws → get s t.place ≡ o → has_ticket t o ≡ true → option_map (λ (x : Slot T W). x.waiter.w) o ≡ option_map (λ (x : Waiter T W). x.w) (waiter_of t ws)
  w_at s first last ws t None h at same = absurd (cc)
  w_at s first last ws t (Some slot) h at same = let f = found s first last ws t slot h at same in rw (f.is, f.there.found)

  pub not_at : (s : Slab (Slot T W)) (first last : Option ℕ) (ws : List (Waiter T W)) (t : Ticket) (o : Option (Slot T W)) → IsLinked s first last ws → get s t.place ≡ o → has_ticket t o ≡ false → IsNotThere t ws
  not_at s first last ws t None h at same = absent s first last ws t h at
  not_at s first last ws t (Some slot) h at same = replaced s first last ws t slot h at same

  -- a waiter whose message was taken out, where m is what is left of it
  pub record Emptied (s : Slab (Slot T W)) (first last : Option ℕ) (place : ℕ) (ws : List (Waiter T W)) (slot : Slot T W) (m : Option T) : Type 0 where
    pub others : List (Waiter T W)
    pub takes : TakesMessageAt place ws slot.waiter.message slot.after others
    pub linked : IsLinked (with_waiter s place slot (record slot.waiter { message = m })) first last others

  pub emptied_at : (s : Slab (Slot T W)) (first last : Option ℕ) (place : ℕ) (ws : List (Waiter T W)) (slot : Slot T W) (m : Option T) → IsLinked s first last ws → Some slot ≡ get s place → m ≡ None → Emptied s first last place ws slot m
  emptied_at s first last place ws slot m h some none =
      let at = stands None ws place slot (sym (h.holds place) ∙ sym some) in
      let out = AreApart-out at.front slot.waiter at.back (subst AreApart at.is h.apart) in
      let behind = (IsFree-parts slot.waiter.ticket.place at.front at.back out.1).1 in
      let others = at.front ++ emptied slot.waiter ∷ at.back in
      let linked : IsLinked (with_waiter s place slot (emptied slot.waiter)) first last others = linked_changed slot.waiter (emptied slot.waiter) at.back refl s first last at.front place slot (sym at.place) at.free (sym some) (subst (IsLinked s first last) at.is h) in
      record {
        others = others;
        takes = record {
          front = at.front;
          waiter = slot.waiter;
          back = at.back;
          was = at.is;
          place_is = at.place;
          free_before = at.free;
          free_behind = subst (λ (n : ℕ). IsFree n at.back) at.place behind;
          message = refl;
          behind = at.after;
          left = refl;
        };
        linked = subst (λ (k : Option T). IsLinked (with_waiter s place slot (record slot.waiter { message = k })) first last others) (sym none) linked;
      }
