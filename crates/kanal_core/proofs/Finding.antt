-- Who has a ticket, where a waiter stands between others in linked slots.
use Rattle.kanal_core.proofs.Common.{◌≡◌, ◌≢◌, ◌⊎◌, ℕ, Bool, true, false, not, List, [], ◌∷◌, ◌++◌, Option, Some, None, IfSome, IfNone, inl, inr, refl, sym, ap, ◌∙◌, arith, subst, Ticket, Waiter, Slot, first_place, IsFree, AreApart, IsLinked, IsOneOut, Slab, get, TakesFirst, same_ticket, waiter_of, without, with_w}
use Rattle.kanal_core.proofs.Linking.{stands, free_if_empty, AreApart-out, IsFree-parts}

pub same_ticket-same : (t : Ticket) → same_ticket t t ≡ true
same_ticket-same t = grind arith

pub same_ticket-off : (t u : Ticket) → t.place ≢ u.place → same_ticket u t ≡ false
same_ticket-off t u off = grind arith

pub same_ticket-is : (u t : Ticket) → same_ticket u t ≡ true → t ≡ u
same_ticket-is u t same = let n : u.number ≡ t.number = grind arith in let p : u.place ≡ t.place = grind arith in rw (n, p)

pub true_or_false : (b : Bool) → (b ≡ true) ⊎ (b ≡ false)
true_or_false true = inl refl
true_or_false false = inr refl

pub not_true : (b : Bool) → true ≡ not b → b ≡ false
not_true true h = cc
not_true false h = refl

pub not_false : (b : Bool) → false ≡ not b → b ≡ true
not_false true h = refl
not_false false h = cc

module _ {T W : Type 0} where
  waiter_of-found : (t : Ticket) (a : List (Waiter T W)) (x : Waiter T W) (b : List (Waiter T W)) → t ≡ x.ticket → IsFree t.place a → waiter_of t (a ++ x ∷ b) ≡ Some x
  waiter_of-found t [] x b is free = let e = same_ticket-same x.ticket in rw (is, e)
  waiter_of-found t (y ∷ a) x b is free = let e = same_ticket-off t y.ticket free.0 in rw e (waiter_of-found t a x b is free.1)

  without-found : (t : Ticket) (a : List (Waiter T W)) (x : Waiter T W) (b : List (Waiter T W)) → t ≡ x.ticket → IsFree t.place a → without t (a ++ x ∷ b) ≡ a ++ b
  without-found t [] x b is free = let e = same_ticket-same x.ticket in rw (is, e)
  without-found t (y ∷ a) x b is free = let e = same_ticket-off t y.ticket free.0 in rw (e, without-found t a x b is free.1)

  with_w-found : (t : Ticket) (w : W) (a : List (Waiter T W)) (x : Waiter T W) (b : List (Waiter T W)) → t ≡ x.ticket → IsFree t.place a → with_w t w (a ++ x ∷ b) ≡ a ++ record x { w = w } ∷ b
  with_w-found t w [] x b is free = let e = same_ticket-same x.ticket in rw (is, e)
  with_w-found t w (y ∷ a) x b is free = let e = same_ticket-off t y.ticket free.0 in rw (e, with_w-found t w a x b is free.1)

  -- where no waiter has the ticket
  pub record IsNotThere (t : Ticket) (ws : List (Waiter T W)) : Type 0 where
    pub nobody : waiter_of t ws ≡ None
    pub others : without t ws ≡ ws
    pub same : (w : W) → with_w t w ws ≡ ws

  pub not_there_free : (t : Ticket) (ws : List (Waiter T W)) → IsFree t.place ws → IsNotThere t ws
  not_there_free t [] free = record { nobody = refl; others = refl; same = λ w. refl }
  not_there_free t (y ∷ ys) free =
      let e = same_ticket-off t y.ticket free.0 in
      let rest = not_there_free t ys free.1 in
      record { nobody = rw e rest.nobody; others = rw (e, rest.others); same = λ w. rw (e, rest.same w) }

  pub not_there_number : (t : Ticket) (a : List (Waiter T W)) (x : Waiter T W) (b : List (Waiter T W)) → same_ticket x.ticket t ≡ false → IsFree t.place a → IsFree t.place b → IsNotThere t (a ++ x ∷ b)
  not_there_number t [] x b off free_a free_b =
      let rest = not_there_free t b free_b in
      record { nobody = rw off rest.nobody; others = rw (off, rest.others); same = λ w. rw (off, rest.same w) }
  not_there_number t (y ∷ a) x b off free_a free_b =
      let e = same_ticket-off t y.ticket free_a.0 in
      let rest = not_there_number t a x b off free_a.1 free_b in
      record { nobody = rw e rest.nobody; others = rw (e, rest.others); same = λ w. rw (e, rest.same w) }

  -- where one has it
  pub record IsThere (t : Ticket) (a : List (Waiter T W)) (x : Waiter T W) (b : List (Waiter T W)) : Type 0 where
    pub found : waiter_of t (a ++ x ∷ b) ≡ Some x
    pub others : without t (a ++ x ∷ b) ≡ a ++ b
    pub changed : (w : W) → with_w t w (a ++ x ∷ b) ≡ a ++ record x { w = w } ∷ b

  pub there : (t : Ticket) (a : List (Waiter T W)) (x : Waiter T W) (b : List (Waiter T W)) → t ≡ x.ticket → IsFree t.place a → IsThere t a x b
  there t a x b is free = record { found = waiter_of-found t a x b is free; others = without-found t a x b is free; changed = λ w. with_w-found t w a x b is free }

  -- nothing at its place
  pub absent : (s : Slab (Slot T W)) (first last : Option ℕ) (ws : List (Waiter T W)) (t : Ticket) → IsLinked s first last ws → get s t.place ≡ None → IsNotThere t ws
  absent s first last ws t h none = not_there_free t ws (free_if_empty None ws t.place (sym (h.holds t.place) ∙ none))

  -- another waiter at its place
  pub replaced : (s : Slab (Slot T W)) (first last : Option ℕ) (ws : List (Waiter T W)) (t : Ticket) (slot : Slot T W) → IsLinked s first last ws → get s t.place ≡ Some slot → same_ticket slot.waiter.ticket t ≡ false → IsNotThere t ws
  replaced s first last ws t slot h some off =
      let at = stands None ws t.place slot (sym (h.holds t.place) ∙ some) in
      let out = AreApart-out at.front slot.waiter at.back (subst AreApart at.is h.apart) in
      let rest = (IsFree-parts slot.waiter.ticket.place at.front at.back out.1).1 in
      subst (IsNotThere t) (sym at.is) (not_there_number t at.front slot.waiter at.back off at.free (subst (λ (n : ℕ). IsFree n at.back) at.place rest))

  -- the waiter itself at its place
  pub record Found (t : Ticket) (ws : List (Waiter T W)) (slot : Slot T W) : Type 0 where
    pub front : List (Waiter T W)
    pub back : List (Waiter T W)
    pub is : ws ≡ front ++ slot.waiter ∷ back
    pub ticket : t ≡ slot.waiter.ticket
    pub free : IsFree t.place front
    pub there : IsThere t front slot.waiter back

  pub found : (s : Slab (Slot T W)) (first last : Option ℕ) (ws : List (Waiter T W)) (t : Ticket) (slot : Slot T W) → IsLinked s first last ws → get s t.place ≡ Some slot → same_ticket slot.waiter.ticket t ≡ true → Found t ws slot
  found s first last ws t slot h some same =
      let at = stands None ws t.place slot (sym (h.holds t.place) ∙ some) in
      let is = same_ticket-is slot.waiter.ticket t same in
      record { front = at.front; back = at.back; is = at.is; ticket = is; free = at.free; there = there t at.front slot.waiter at.back is at.free }

  -- only one waiter is at a place
  same_at : (a : List (Waiter T W)) (x : Waiter T W) (b c : List (Waiter T W)) (y : Waiter T W) (d : List (Waiter T W)) → a ++ x ∷ b ≡ c ++ y ∷ d → x.ticket.place ≡ y.ticket.place → IsFree x.ticket.place a → IsFree y.ticket.place c → (x ≡ y) × (a ++ b ≡ c ++ d)
  same_at [] x b [] y d same at free_a free_c = (cc, cc)
  same_at [] x b (z ∷ c) y d same at free_a free_c = let e : x ≡ z = cc in absurd (free_c.0 (sym at ∙ ap (λ (w : Waiter T W). w.ticket.place) e))
  same_at (z ∷ a) x b [] y d same at free_a free_c = let e : z ≡ y = cc in absurd (free_a.0 (at ∙ sym (ap (λ (w : Waiter T W). w.ticket.place) e)))
  same_at (z ∷ a) x b (u ∷ c) y d same at free_a free_c =
      let e : z ≡ u = cc in
      let rest = same_at a x b c y d (cc) at free_a.1 free_c.1 in
      (rest.0, rw (e, rest.1))

  -- what an unlinking at the ticket's place answers and leaves
  pub removed : (t : Ticket) (old new : List (Waiter T W)) (slot : Slot T W) (r : Option (Waiter T W)) → Found t old slot → IfSome r (λ w. (w.ticket.place ≡ t.place) × IsOneOut old new w) → IfNone r ((new ≡ old) × IsFree t.place old) → (r ≡ waiter_of t old) × (new ≡ without t old)
  removed t old new slot None f some none = absurd (IsFree-absurd f.front (subst (IsFree t.place) f.is none.1))
    where
      IsFree-absurd : (a : List (Waiter T W)) → IsFree t.place (a ++ slot.waiter ∷ f.back) → ⊥
      IsFree-absurd [] free = free.0 (ap (λ (u : Ticket). u.place) f.ticket)
      IsFree-absurd (y ∷ a) free = IsFree-absurd a free.1
  removed t old new slot (Some w) f some none =
      let one = some.1 in
      let places : slot.waiter.ticket.place ≡ w.ticket.place = sym (ap (λ (u : Ticket). u.place) f.ticket) ∙ sym some.0 in
      let both = same_at f.front slot.waiter f.back one.front w one.back (sym f.is ∙ one.stood) places (subst (λ (u : Ticket). IsFree u.place f.front) f.ticket f.free) one.free in
      (rw (f.is, f.there.found, both.0), one.left ∙ sym both.1 ∙ sym (rw f.is f.there.others))

  -- what an unlinking of the first answers and leaves
  pub popped : (ws new : List (Waiter T W)) (place : ℕ) (r : Option (Waiter T W)) → first_place ws ≡ Some place → IfSome r (λ w. (w.ticket.place ≡ place) × IsOneOut ws new w) → IfNone r ((new ≡ ws) × IsFree place ws) → TakesFirst r ws new
  popped [] new place r at some none = absurd (cc)
  popped (x ∷ xs) new place None at some none = let e : x.ticket.place ≡ place = cc in absurd (none.1.0 (sym e))
  popped (x ∷ xs) new place (Some w) at some none =
      let e : x.ticket.place ≡ place = cc in
      let one = some.1 in
      let both = same_at [] x xs one.front w one.back one.stood (e ∙ sym some.0) tt one.free in
      ap (λ (z : Waiter T W). z ∷ xs) both.0 ∙ ap (λ (zs : List (Waiter T W)). w ∷ zs) (both.1 ∙ sym one.left)
