-- Lists of waiters in linked slots, where one leaves or joins.
use Rattle.kanal_core.proofs.Common.{eqb, ◌≡◌, ◌≢◌, ℕ, ◌+◌, List, [], ◌∷◌, ◌++◌, length, Option, Some, None, cond, refl, sym, ap, ◌∙◌, inl, inr, arith, subst, length-append, cases_eq, Slab, get, slab_len, Updates, Waiter, Slot, first_place, last_place, slot_for, IsFree, AreApart, walk, IsLinked, link_after, link_before, IsOneOut, end_after, front_with}
use Rattle.std.proofs.lemmas.List.{append-nil}

by_some : {m n : ℕ} → Some m ≡ Some n → m ≡ n
by_some same = cc

module _ {T W : Type 0} where
  -- a free place holds nothing
  pub slot_for-free : (q : Option ℕ) (ws : List (Waiter T W)) (p : ℕ) → IsFree p ws → slot_for q ws p ≡ None
  slot_for-free q [] p free = refl
  slot_for-free q (x ∷ xs) p free = let rest = slot_for-free (Some x.ticket.place) xs p free.1 in let off = free.0 in grind arith

  -- the same of two parts
  pub IsFree-parts : (p : ℕ) (a b : List (Waiter T W)) → IsFree p (a ++ b) → IsFree p a × IsFree p b
  IsFree-parts p [] b free = (tt, free)
  IsFree-parts p (x ∷ a) b free = let rest = IsFree-parts p a b free.1 in ((free.0, rest.0), rest.1)

  pub IsFree-join : (p : ℕ) (a b : List (Waiter T W)) → IsFree p a → IsFree p b → IsFree p (a ++ b)
  IsFree-join p [] b left right = right
  IsFree-join p (x ∷ a) b left right = (left.0, IsFree-join p a b left.1 right)

  -- one out of the middle
  pub AreApart-out : (a : List (Waiter T W)) (x : Waiter T W) (b : List (Waiter T W)) → AreApart (a ++ x ∷ b) → AreApart (a ++ b) × IsFree x.ticket.place (a ++ b)
  AreApart-out [] x b apart = (apart.1, apart.0)
  AreApart-out (y ∷ a) x b apart =
      let rest = AreApart-out a x b apart.1 in
      let parts = IsFree-parts y.ticket.place a (x ∷ b) apart.0 in
      ((IsFree-join y.ticket.place a b parts.0 parts.1.1, rest.0), ((λ same. parts.1.0 (sym same)), rest.1))

  -- what is found at a place stands in the list, between the places it names
  pub record Stands (q : Option ℕ) (ws : List (Waiter T W)) (p : ℕ) (slot : Slot T W) : Type 0 where
    pub front : List (Waiter T W)
    pub back : List (Waiter T W)
    pub is : ws ≡ front ++ slot.waiter ∷ back
    pub place : slot.waiter.ticket.place ≡ p
    pub before : slot.before ≡ last_place q front
    pub after : slot.after ≡ first_place back
    pub free : IsFree p front

  pub stands : (q : Option ℕ) (ws : List (Waiter T W)) (p : ℕ) (slot : Slot T W) → slot_for q ws p ≡ Some slot → Stands q ws p slot
  stands q [] p slot found = absurd (cc)
  stands q (x ∷ xs) p slot found =
      elim (cases_eq p x.ticket.place) [
        | inl same ↦
            let is : ◌≡◌ {A = Option (Slot T W)} (Some (record { waiter = x; before = q; after = first_place xs })) (Some slot) = grind arith in
            let it : ◌≡◌ {A = Slot T W} (record { waiter = x; before = q; after = first_place xs }) slot = cc in
            rw (← it) (record { front = []; back = xs; is = refl; place = sym same; before = refl; after = refl; free = tt })
        | inr off ↦
            let further : slot_for (Some x.ticket.place) xs p ≡ Some slot = grind arith in
            let rest = stands (Some x.ticket.place) xs p slot further in
            record { front = x ∷ rest.front; back = rest.back; is = rw (← rest.is); place = rest.place; before = rest.before; after = rest.after; free = (off, rest.free) }
      ]

  -- the place q, if there is one, is free
  abbrev pub IsFreeBefore : Option ℕ → List (Waiter T W) → Type 0
  IsFreeBefore None ws = Unit {0}
  IsFreeBefore (Some q) ws = IsFree q ws

  -- a change of the slot at q changes nothing if no slot is there
  link_after-none : (at to : Option ℕ) (p : ℕ) → link_after {T = T} {W = W} at to p None ≡ None
  link_after-none None to p = refl
  link_after-none (Some q) to p = refl

  link_before-none : (at to : Option ℕ) (p : ℕ) → link_before {T = T} {W = W} at to p None ≡ None
  link_before-none None to p = refl
  link_before-none (Some q) to p = refl

  link_after-off : (at to : Option ℕ) (p : ℕ) (o : Option (Slot T W)) → (Some p ≢ at) → link_after at to p o ≡ o
  link_after-off None to p o off = refl
  link_after-off (Some q) to p None off = refl
  link_after-off (Some q) to p (Some slot) off = let differs : p ≢ q = (λ same. off (ap (λ (n : ℕ). Some n) same)) in grind arith

  link_before-off : (at to : Option ℕ) (p : ℕ) (o : Option (Slot T W)) → (Some p ≢ at) → link_before at to p o ≡ o
  link_before-off None to p o off = refl
  link_before-off (Some q) to p None off = refl
  link_before-off (Some q) to p (Some slot) off = let differs : p ≢ q = (λ same. off (ap (λ (n : ℕ). Some n) same)) in grind arith

  -- the place after some waiters is not that of one of them
  last_place-free : (q : Option ℕ) (ws : List (Waiter T W)) (p : ℕ) → (Some p ≢ q) → IsFree p ws → Some p ≢ last_place q ws
  last_place-free q [] p off free = off
  last_place-free q (x ∷ xs) p off free = last_place-free (Some x.ticket.place) xs p (λ same. free.0 (by_some same)) free.1

  first_place-free : (ws : List (Waiter T W)) (p : ℕ) → IsFree p ws → Some p ≢ first_place ws
  first_place-free [] p free = λ same. absurd (cc)
  first_place-free (x ∷ xs) p free = λ same. free.0 (by_some same)

  -- what the place p holds once the slot at `gone` is empty
  abbrev pub vacated : ℕ → ℕ → Option (Slot T W) → Option (Slot T W)
  vacated gone p o = cond (eqb p gone) None o

  -- what one place holds once the slot at x's place is empty and its neighbors are linked to each other
  abbrev pub closed_up : Option ℕ → Option ℕ → ℕ → ℕ → Option (Slot T W) → Option (Slot T W)
  closed_up before after gone p o = link_before after before p (link_after before after p (vacated gone p o))

  vacated-here : (gone p : ℕ) (o : Option (Slot T W)) → p ≡ gone → vacated gone p o ≡ None
  vacated-here gone p o same = grind arith

  vacated-off : (gone p : ℕ) (o : Option (Slot T W)) → p ≢ gone → vacated gone p o ≡ o
  vacated-off gone p o off = grind arith

  closed_up-none : (before after : Option ℕ) (gone p : ℕ) → closed_up before after gone p None ≡ None
  closed_up-none before after gone p = let e : vacated gone p None ≡ None = grind arith in rw (e, link_after-none before after p, link_before-none after before p)

  -- where nothing applies
  closed_up-off : (before after : Option ℕ) (gone p : ℕ) (o : Option (Slot T W)) → (Some p ≢ before) → (Some p ≢ after) → p ≢ gone → closed_up before after gone p o ≡ o
  closed_up-off before after gone p o off_before off_after off =
      let e : vacated gone p o ≡ o = grind arith in
      rw (e, link_after-off before after p o off_before, link_before-off after before p o off_after)

  -- some places are not the one before
  off_before : (q : Option ℕ) (p : ℕ) (ws : List (Waiter T W)) (x : Waiter T W) → p ≡ x.ticket.place → IsFreeBefore q (x ∷ ws) → Some p ≢ q
  off_before None p ws x is free = λ same. absurd (cc)
  off_before (Some n) p ws x is free = λ same. free.0 (by_some (sym same) ∙ is)

  pub slot_for-here : (q : Option ℕ) (x : Waiter T W) (xs : List (Waiter T W)) (p : ℕ) → p ≡ x.ticket.place → slot_for q (x ∷ xs) p ≡ Some (record { waiter = x; before = q; after = first_place xs })
  slot_for-here q x xs p same = grind arith

  pub slot_for-on : (q : Option ℕ) (x : Waiter T W) (xs : List (Waiter T W)) (p : ℕ) → p ≢ x.ticket.place → slot_for q (x ∷ xs) p ≡ slot_for (Some x.ticket.place) xs p
  slot_for-on q x xs p off = grind arith

  closed_up-gone : (before after : Option ℕ) (gone p : ℕ) (o : Option (Slot T W)) → p ≡ gone → closed_up before after gone p o ≡ None
  closed_up-gone before after gone p o same =
      let e : vacated gone p o ≡ None = grind arith in
      rw (e, link_after-none before after p, link_before-none after before p)

  closed_up-elsewhere : (q after r : Option ℕ) (gone p : ℕ) (ws : List (Waiter T W)) → IsFreeBefore q ws → (Some p ≢ after) → p ≢ gone → closed_up q after gone p (slot_for r ws p) ≡ slot_for r ws p
  closed_up-elsewhere None after r gone p ws free off_after off = closed_up-off None after gone p _ (λ same. absurd (cc)) off_after off
  closed_up-elsewhere (Some n) after r gone p ws free off_after off =
      elim (cases_eq p n) [
        | inl same ↦
            let none : slot_for r ws p ≡ None = rw same (slot_for-free r ws n free) in
            rw none (closed_up-none (Some n) after gone p)
        | inr differs ↦ closed_up-off (Some n) after gone p _ (λ same. differs (by_some same)) off_after off
      ]

  -- a waiter out of the front
  unlinked_first : (q : Option ℕ) (x : Waiter T W) (b : List (Waiter T W)) (p : ℕ) → IsFreeBefore q (x ∷ b) → AreApart (x ∷ b) → closed_up q (first_place b) x.ticket.place p (slot_for q (x ∷ b) p) ≡ slot_for q b p
  unlinked_first q x [] p free apart =
      elim (cases_eq p x.ticket.place) [
        | inl same ↦ closed_up-gone q None x.ticket.place p _ same
        | inr off ↦ rw (slot_for-on q x [] p off) (closed_up-none q None x.ticket.place p)
      ]
  unlinked_first q x (z ∷ b) p free apart =
      elim (cases_eq p x.ticket.place) [
        | inl same ↦
            closed_up-gone q (Some z.ticket.place) x.ticket.place p _ same
            ∙ sym (slot_for-free q (z ∷ b) p (subst (λ (n : ℕ). IsFree n (z ∷ b)) (sym same) apart.0))
        | inr off ↦ rw (slot_for-on q x (z ∷ b) p off) (
            elim (cases_eq p z.ticket.place) [
              | inl same ↦
                  let differs : Some p ≢ q = off_before q p b z same (rest_free q free) in
                  let e : vacated x.ticket.place p (Some (record { waiter = z; before = Some x.ticket.place; after = first_place b })) ≡ Some (record { waiter = z; before = Some x.ticket.place; after = first_place b }) = grind arith in
                  rw (slot_for-here (Some x.ticket.place) z b p same, slot_for-here q z b p same, e, link_after-off q (Some z.ticket.place) p _ differs) (grind arith)
              | inr other ↦
                  rw (slot_for-on (Some x.ticket.place) z b p other, slot_for-on q z b p other)
                  (closed_up-elsewhere q (Some z.ticket.place) (Some z.ticket.place) x.ticket.place p b (rest_free_2 q free) (λ same. other (by_some same)) off)
            ])
      ]
    where
      rest_free : (q : Option ℕ) → IsFreeBefore q (x ∷ z ∷ b) → IsFreeBefore q (z ∷ b)
      rest_free None free = tt
      rest_free (Some n) free = free.1

      rest_free_2 : (q : Option ℕ) → IsFreeBefore q (x ∷ z ∷ b) → IsFreeBefore q b
      rest_free_2 None free = tt
      rest_free_2 (Some n) free = free.1.1

  -- a waiter out of the middle
  pub unlinked : (q : Option ℕ) (a : List (Waiter T W)) (x : Waiter T W) (b : List (Waiter T W)) (p : ℕ) → IsFreeBefore q (a ++ x ∷ b) → AreApart (a ++ x ∷ b) → closed_up (last_place q a) (first_place b) x.ticket.place p (slot_for q (a ++ x ∷ b) p) ≡ slot_for q (a ++ b) p
  unlinked q [] x b p free apart = unlinked_first q x b p free apart
  unlinked q (y ∷ a) x b p free apart =
      elim (cases_eq p y.ticket.place) [
        | inl same ↦
            let parts = IsFree-parts y.ticket.place a (x ∷ b) apart.0 in
            let off_x : p ≢ x.ticket.place = (λ is. parts.1.0 (sym same ∙ is)) in
            let off_b : Some p ≢ first_place b = first_place-free b p (rw same parts.1.1) in
            rw (slot_for-here q y (a ++ x ∷ b) p same, slot_for-here q y (a ++ b) p same) (at_y a parts.0 same off_x off_b)
        | inr off ↦ rw (slot_for-on q y (a ++ x ∷ b) p off, slot_for-on q y (a ++ b) p off) (unlinked (Some y.ticket.place) a x b p apart.0 apart.1)
      ]
    where
      at_y : (a : List (Waiter T W)) → IsFree y.ticket.place a → p ≡ y.ticket.place → p ≢ x.ticket.place → Some p ≢ first_place b →
          closed_up (last_place (Some y.ticket.place) a) (first_place b) x.ticket.place p (Some (record { waiter = y; before = q; after = first_place (a ++ x ∷ b) }))
          ≡ Some (record { waiter = y; before = q; after = first_place (a ++ b) })
      at_y [] free same off_x off_b =
          let e : vacated x.ticket.place p (Some (record { waiter = y; before = q; after = Some x.ticket.place })) ≡ Some (record { waiter = y; before = q; after = Some x.ticket.place }) = grind arith in
          let f : link_after (Some y.ticket.place) (first_place b) p (Some (record { waiter = y; before = q; after = Some x.ticket.place })) ≡ Some (record { waiter = y; before = q; after = first_place b }) = grind arith in
          rw (e, f) (link_before-off (first_place b) (Some y.ticket.place) p _ off_b)
      at_y (z ∷ a) free same off_x off_b =
          closed_up-off (last_place (Some z.ticket.place) a) (first_place b) x.ticket.place p _ (last_place-free (Some z.ticket.place) a p (λ is. free.0 (sym same ∙ by_some is)) (rw same free.1)) off_b off_x

  -- what the place p holds once x is stored after `before`
  abbrev pub stored : Waiter T W → Option ℕ → ℕ → Option (Slot T W) → Option (Slot T W)
  stored x before p o = cond (eqb p x.ticket.place) (Some (record { waiter = x; before = before; after = None })) o

  -- a waiter at the end
  pub appended : (q : Option ℕ) (ws : List (Waiter T W)) (x : Waiter T W) (p : ℕ) → IsFreeBefore q ws → (Some x.ticket.place ≢ q) → IsFree x.ticket.place ws → AreApart ws → link_after (last_place q ws) (Some x.ticket.place) p (stored x (last_place q ws) p (slot_for q ws p)) ≡ slot_for q (ws ++ x ∷ []) p
  appended q [] x p free off_q free_x apart =
      elim (cases_eq p x.ticket.place) [
        | inl same ↦
            rw (slot_for-here q x [] p same) (link_after-off q (Some x.ticket.place) p _ (λ is. off_q (ap (λ (n : ℕ). Some n) (sym same) ∙ is)))
        | inr off ↦
            rw (slot_for-on q x [] p off) (link_after-none q (Some x.ticket.place) p)
      ]
  appended q (y ∷ ys) x p free off_q free_x apart =
      elim (cases_eq p y.ticket.place) [
        | inl same ↦
            let off_x : p ≢ x.ticket.place = (λ is. free_x.0 (sym is ∙ same)) in
            rw (slot_for-here q y ys p same, slot_for-here q y (ys ++ x ∷ []) p same) (at_y ys apart.0 same off_x)
        | inr off ↦ rw (slot_for-on q y ys p off, slot_for-on q y (ys ++ x ∷ []) p off) (appended (Some y.ticket.place) ys x p apart.0 (λ is. free_x.0 (by_some is)) free_x.1 apart.1)
      ]
    where
      at_y : (ys : List (Waiter T W)) → IsFree y.ticket.place ys → p ≡ y.ticket.place → p ≢ x.ticket.place →
          link_after (last_place (Some y.ticket.place) ys) (Some x.ticket.place) p (stored x (last_place (Some y.ticket.place) ys) p (Some (record { waiter = y; before = q; after = first_place ys })))
          ≡ Some (record { waiter = y; before = q; after = first_place (ys ++ x ∷ []) })
      at_y [] free same off_x = grind arith
      at_y (z ∷ ys) free same off_x =
          let last = last_place (Some z.ticket.place) ys in
          let e : stored x last p (Some (record { waiter = y; before = q; after = Some z.ticket.place })) ≡ Some (record { waiter = y; before = q; after = Some z.ticket.place }) = grind arith in
          rw e (link_after-off last (Some x.ticket.place) p _ (last_place-free (Some z.ticket.place) ys p (λ is. free.0 (sym same ∙ by_some is)) (subst (λ (n : ℕ). IsFree n ys) (sym same) free.1)))

  pub AreApart-append : (ws : List (Waiter T W)) (x : Waiter T W) → AreApart ws → IsFree x.ticket.place ws → AreApart (ws ++ x ∷ [])
  AreApart-append [] x apart free = (tt, tt)
  AreApart-append (y ∷ ys) x apart free = (IsFree-join y.ticket.place ys (x ∷ []) apart.0 ((λ is. free.0 (sym is)), tt), AreApart-append ys x apart.1 free.1)

  -- an empty place is free
  pub free_if_empty : (q : Option ℕ) (ws : List (Waiter T W)) (p : ℕ) → slot_for q ws p ≡ None → IsFree p ws
  free_if_empty q [] p none = tt
  free_if_empty q (x ∷ xs) p none =
      elim (cases_eq p x.ticket.place) [
        | inl same ↦ let e = slot_for-here q x xs p same in absurd (cc)
        | inr off ↦ (off, free_if_empty (Some x.ticket.place) xs p (sym (slot_for-on q x xs p off) ∙ none))
      ]

  -- the walk goes through all of them
  pub walked : (q : Option ℕ) (ws : List (Waiter T W)) (s : Slab (Slot T W)) → AreApart ws → ((p : ℕ) (slot : Slot T W) → slot_for q ws p ≡ Some slot → get s p ≡ Some slot) → walk (length ws) s (first_place ws) ≡ ws
  walked q [] s apart holds = refl
  walked q (x ∷ xs) s apart holds =
      let here = holds x.ticket.place _ (slot_for-here q x xs x.ticket.place refl) in
      let rest = walked (Some x.ticket.place) xs s apart.1 (λ p slot e. holds p slot (slot_for-on q x xs p (λ is. differs p slot is e) ∙ e)) in
      rw (here, rest)
    where
      differs : (p : ℕ) (slot : Slot T W) → p ≡ x.ticket.place → slot_for (Some x.ticket.place) xs p ≡ Some slot → ⊥
      differs p slot is e = let none = slot_for-free (Some x.ticket.place) xs p (subst (λ (n : ℕ). IsFree n xs) (sym is) apart.0) in cc

  pub walk_is : (s : Slab (Slot T W)) (first last : Option ℕ) (ws : List (Waiter T W)) → IsLinked s first last ws → walk (slab_len s) s first ≡ ws
  walk_is s first last ws h = rw (h.count, h.begins) (walked None ws s h.apart (λ p slot e. h.holds p ∙ e))

  -- so slots that hold some waiters hold those that the walk finds
  pub closes : (s : Slab (Slot T W)) (first last : Option ℕ) (ws : List (Waiter T W)) → IsLinked s first last ws → IsLinked s first last (walk (slab_len s) s first)
  closes s first last ws h = subst (IsLinked s first last) (sym (walk_is s first last ws h)) h

  last_place-cons : (q : Option ℕ) (a : List (Waiter T W)) (z : Waiter T W) (b : List (Waiter T W)) → last_place q (a ++ z ∷ b) ≡ last_place (Some z.ticket.place) b
  last_place-cons q [] z b = refl
  last_place-cons q (y ∷ a) z b = last_place-cons (Some y.ticket.place) a z b

  first_after : (a : List (Waiter T W)) (x : Waiter T W) (b : List (Waiter T W)) → end_after (last_place None a) (first_place b) (first_place (a ++ x ∷ b)) ≡ first_place (a ++ b)
  first_after [] x b = refl
  first_after (y ∷ a) x b = some (last_place (Some y.ticket.place) a) (last_some y.ticket.place a)
    where
      last_some : (n : ℕ) (a : List (Waiter T W)) → (m : ℕ) × (last_place (Some n) a ≡ Some m)
      last_some n [] = (n, refl)
      last_some n (z ∷ a) = last_some z.ticket.place a

      some : (o : Option ℕ) → ((m : ℕ) × (o ≡ Some m)) → end_after o (first_place b) (Some y.ticket.place) ≡ Some y.ticket.place
      some o is = rw is.1

  last_after : (a : List (Waiter T W)) (x : Waiter T W) (b : List (Waiter T W)) → end_after (first_place b) (last_place None a) (last_place None (a ++ x ∷ b)) ≡ last_place None (a ++ b)
  last_after a x [] = rw append-nil
  last_after a x (z ∷ b) = last_place-cons None a x (z ∷ b) ∙ sym (last_place-cons None a z b)

  vacated_is : (s s1 : Slab (Slot T W)) (gone place p : ℕ) → gone ≡ place → Updates s s1 place None → get s1 p ≡ vacated gone p (get s p)
  vacated_is s s1 gone place p is updates =
      elim (cases_eq p gone) [
        | inl same ↦ ap (get s1) (same ∙ is) ∙ updates.changed ∙ sym (vacated-here gone p (get s p) same)
        | inr off ↦ updates.others p (λ e. off (e ∙ sym is)) ∙ sym (vacated-off gone p (get s p) off)
      ]

  -- the slots after a removal and both new links hold the others
  pub record Unlinked (s : Slab (Slot T W)) (first last : Option ℕ) (ws : List (Waiter T W)) (slot : Slot T W) (place : ℕ) : Type 0 where
    pub others : List (Waiter T W)
    pub out : IsOneOut ws others slot.waiter
    pub place_is : slot.waiter.ticket.place ≡ place
    pub linked : IsLinked s first last others

  unlinked_linked : (s s1 s2 s3 : Slab (Slot T W)) (first last before after : Option ℕ) (ws a : List (Waiter T W)) (x : Waiter T W) (b : List (Waiter T W)) (place : ℕ) → x.ticket.place ≡ place → ws ≡ a ++ x ∷ b → before ≡ last_place None a → after ≡ first_place b → IsLinked s first last ws → Updates s s1 place None → slab_len s1 + 1 ≡ slab_len s → ((p : ℕ) → get s2 p ≡ link_after before after p (get s1 p)) → slab_len s2 ≡ slab_len s1 → ((p : ℕ) → get s3 p ≡ link_before after before p (get s2 p)) → slab_len s3 ≡ slab_len s2 → IsLinked s3 (end_after before after first) (end_after after before last) (a ++ b)
  unlinked_linked s s1 s2 s3 first last before after ws a x b place at is is_before is_after h updates fewer link_a len_a link_b len_b =
      let apart : AreApart (a ++ x ∷ b) = subst AreApart is h.apart in
      record {
        holds = (λ p. link_b p ∙ ap (link_before after before p) (link_a p ∙ ap (link_after before after p) (vacated_is s s1 x.ticket.place place p at updates))
            ∙ (rw (is_before, is_after, h.holds p, is) (unlinked None a x b p tt apart)));
        apart = (AreApart-out a x b apart).0;
        begins = rw (is_before, is_after, h.begins, is) (first_after a x b);
        ends = rw (is_before, is_after, h.ends, is) (last_after a x b);
        count = let n = ap length is in omega (arith, n, h.count, length-append a (x ∷ b), length-append a b);
      }

  pub unlink : (s s1 s2 s3 : Slab (Slot T W)) (first last first' last' : Option ℕ) (ws : List (Waiter T W)) (slot : Slot T W) (place : ℕ) → IsLinked s first last ws → get s place ≡ Some slot → Updates s s1 place None → slab_len s1 + 1 ≡ slab_len s → ((p : ℕ) → get s2 p ≡ link_after slot.before slot.after p (get s1 p)) → slab_len s2 ≡ slab_len s1 → ((p : ℕ) → get s3 p ≡ link_before slot.after slot.before p (get s2 p)) → slab_len s3 ≡ slab_len s2 → first' ≡ end_after slot.before slot.after first → last' ≡ end_after slot.after slot.before last → Unlinked s3 first' last' ws slot place
  unlink s s1 s2 s3 first last first' last' ws slot place h found updates fewer after after_len before before_len is_first is_last =
      let at = stands None ws place slot (sym (h.holds place) ∙ found) in
      record {
        others = at.front ++ at.back;
        out = record { front = at.front; back = at.back; stood = at.is; left = refl; free = subst (λ (n : ℕ). IsFree n at.front) (sym at.place) at.free };
        place_is = at.place;
        linked = rw (is_first, is_last) (unlinked_linked s s1 s2 s3 first last slot.before slot.after ws at.front slot.waiter at.back place at.place at.is at.before at.after h updates fewer after after_len before before_len);
      }

  pub IsOneOut-at : (old old' new new' : List (Waiter T W)) (x : Waiter T W) → IsOneOut old new x → old ≡ old' → new' ≡ new → IsOneOut old' new' x
  IsOneOut-at old old' new new' x out is_old is_new = rw (← is_old, is_new) out

  first_with : (ws : List (Waiter T W)) (x : Waiter T W) → front_with (first_place ws) x.ticket.place ≡ first_place (ws ++ x ∷ [])
  first_with [] x = refl
  first_with (y ∷ ys) x = refl

  stored_is : (s s1 : Slab (Slot T W)) (x : Waiter T W) (before : Option ℕ) (p : ℕ) → Updates s s1 x.ticket.place (Some (record { waiter = x; before = before; after = None })) → get s1 p ≡ stored x before p (get s p)
  stored_is s s1 x before p updates =
      elim (cases_eq p x.ticket.place) [
        | inl same ↦ ap (get s1) same ∙ updates.changed ∙ sym (stored-here x before p (get s p) same)
        | inr off ↦ updates.others p off ∙ sym (stored-off x before p (get s p) off)
      ]
    where
      stored-here : (x : Waiter T W) (before : Option ℕ) (p : ℕ) (o : Option (Slot T W)) → p ≡ x.ticket.place → stored x before p o ≡ Some (record { waiter = x; before = before; after = None })
      stored-here x before p o same = grind arith

      stored-off : (x : Waiter T W) (before : Option ℕ) (p : ℕ) (o : Option (Slot T W)) → p ≢ x.ticket.place → stored x before p o ≡ o
      stored-off x before p o off = grind arith

  -- the slots after a store and one new link hold one more
  pub linked_on : (s s1 s2 : Slab (Slot T W)) (first last first' : Option ℕ) (ws : List (Waiter T W)) (x : Waiter T W) → IsLinked s first last ws → get s x.ticket.place ≡ None → Updates s s1 x.ticket.place (Some (record { waiter = x; before = last; after = None })) → slab_len s1 ≡ slab_len s + 1 → ((p : ℕ) → get s2 p ≡ link_after last (Some x.ticket.place) p (get s1 p)) → slab_len s2 ≡ slab_len s1 → first' ≡ front_with first x.ticket.place → IsLinked s2 first' (Some x.ticket.place) (ws ++ x ∷ [])
  linked_on s s1 s2 first last first' ws x h vacant updates more link len_link is_first =
      let free = free_if_empty None ws x.ticket.place (sym (h.holds x.ticket.place) ∙ vacant) in
      record {
        holds = (λ p. link p ∙ ap (link_after last (Some x.ticket.place) p) (stored_is s s1 x last p updates)
            ∙ (rw (h.ends, h.holds p) (appended None ws x p tt (λ is. absurd (cc)) free h.apart)));
        apart = AreApart-append ws x h.apart free;
        begins = is_first ∙ rw h.begins (first_with ws x);
        ends = sym (last_place-cons None ws x []);
        count = omega (arith, h.count, length-append ws (x ∷ []));
      }

  -- a growth changes nothing of this
  pub IsLinked-slots : (s s' : Slab (Slot T W)) (first last : Option ℕ) (ws : List (Waiter T W)) → s'.slots ≡ s.slots → IsLinked s first last ws → IsLinked s' first last ws
  IsLinked-slots s s' first last ws same h = record { holds = λ p. rw same (h.holds p); apart = h.apart; begins = h.begins; ends = h.ends; count = rw same h.count }

  pub Updates-at : (s s' : Slab (Slot T W)) (key key' : ℕ) (slot : Option (Slot T W)) → key ≡ key' → Updates s s' key slot → Updates s s' key' slot
  Updates-at s s' key key' slot is updates = subst (λ (k : ℕ). Updates s s' k slot) is updates
