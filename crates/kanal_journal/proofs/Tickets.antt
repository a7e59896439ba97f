-- The tickets that wait, after each kind of step.
use Rattle.kanal_journal.proofs.Common.{◌≡◌, ℕ, ◌⊎◌, zero, suc, Bool, true, false, not, cond, eqb, ◌==◌, ◌||◌, List, [], ◌∷◌, ◌++◌, filter, drop, Option, Some, None, refl, sym, ap, ◌∙◌, inl, inr, cons_option, cases_Bool, or_cases, false≢true, eq-eqb, eqb-true, ne_eqb, filter_map-append, list_any-append, LineEntry, messages, tickets, has, under, over, holds_ticket, is_ticket, found}
use Rattle.kanal_journal.proofs.Settling.{AreApart, AllBare, AllWait, IsSeated, has_tail, under-over, or_parts}

-- in a list with one more at its end
pub has-append : (t : ℕ) (xs ys : List ℕ) → has t (xs ++ ys) ≡ (has t xs || has t ys)
has-append t xs ys = list_any-append (λ u. u == t) xs ys

pub has-last : (t u : ℕ) (xs : List ℕ) → has t (xs ++ u ∷ []) ≡ true → (has t xs ≡ true) ⊎ (t ≡ u)
has-last t u xs h =
    elim (or_cases (has t xs) (has t (u ∷ [])) (sym (has-append t xs (u ∷ [])) ∙ h)) [
      | inl a ↦ inl a
      | inr b ↦ elim (or_cases (u == t) false b) [ inl e ↦ inr (sym (eqb-true u t e)) | inr f ↦ absurd (false≢true f) ]
    ]

pub apart-last : (xs : List ℕ) (u : ℕ) → has u xs ≡ false → AreApart xs → AreApart (xs ++ u ∷ [])
apart-last [] u h a = (refl, tt)
apart-last (x ∷ xs) u h a =
    let parts = or_parts (x == u) (has u xs) h in
    let off : eqb u x ≡ false = ne_eqb u x (λ e. same x u parts.0 (sym e)) in
    (rw (has-append x xs (u ∷ []), a.0, off) refl, apart-last xs u parts.1 a.1)
  where
    same : (a b : ℕ) → eqb a b ≡ false → a ≡ b → ⊥
    same a b f e = false≢true (sym f ∙ eq-eqb a b e)

pub apart-prefix : (xs ys : List ℕ) → AreApart (xs ++ ys) → AreApart xs
apart-prefix [] ys a = tt
apart-prefix (x ∷ xs) ys a = (fst x xs ys a.0, apart-prefix xs ys a.1)
  where
    left : (a b : Bool) → (a || b) ≡ false → a ≡ false
    left true b h = absurd (cc)
    left false b h = refl

    fst : (x : ℕ) (xs ys : List ℕ) → has x (xs ++ ys) ≡ false → has x xs ≡ false
    fst x xs ys h = left (has x xs) (has x ys) (sym (has-append x xs ys) ∙ h)

-- a list without a ticket
abbrev pub but : ℕ → List ℕ → List ℕ
but t ts = filter (λ u. not (u == t)) ts

pub but-has : (t : ℕ) (ts : List ℕ) → has t (but t ts) ≡ false
but-has t [] = refl
but-has t (u ∷ ts) = elim (cases_Bool (u == t)) [ inl e ↦ rw e (but-has t ts) | inr e ↦ rw (e, e) (but-has t ts) ]

pub but-less : (t v : ℕ) (ts : List ℕ) → has v (but t ts) ≡ true → has v ts ≡ true
but-less t v [] h = h
but-less t v (u ∷ ts) h =
    elim (cases_Bool (u == t)) [
      | inl e ↦ has_tail v u ts (but-less t v ts (rw e at h))
      | inr e ↦
          elim (or_cases (u == v) (has v (but t ts)) (rw e at h)) [
            | inl a ↦ rw a refl
            | inr b ↦ has_tail v u ts (but-less t v ts b)
          ]
    ]

none-less : (t v : ℕ) (ts : List ℕ) → has v ts ≡ false → has v (but t ts) ≡ false
none-less t v ts h = elim (cases_Bool (has v (but t ts))) [ inl a ↦ absurd (false≢true (sym h ∙ but-less t v ts a)) | inr b ↦ b ]

pub but-apart : (t : ℕ) (ts : List ℕ) → AreApart ts → AreApart (but t ts)
but-apart t [] a = tt
but-apart t (u ∷ ts) a = elim (cases_Bool (u == t)) [ inl e ↦ rw e (but-apart t ts a.1) | inr e ↦ rw e (none-less t u ts a.0, but-apart t ts a.1) ]

module _ {T : Type 0} where
  without-cons : (t : ℕ) (o : Option ℕ) (m : T) (rest : List (LineEntry T)) (ts : List ℕ) → tickets rest ≡ but t ts → tickets (cond (not (is_ticket t o)) (record { message = m; ticket = o } ∷ rest) rest) ≡ but t (cons_option o ts)
  without-cons t None m rest ts h = h
  without-cons t (Some u) m rest ts h = elim (cases_Bool (u == t)) [ inl e ↦ rw e h | inr e ↦ rw e (ap (λ xs. u ∷ xs) h) ]

  -- the entries without one leave the tickets without it
  pub tickets-without : (t : ℕ) (xs : List (LineEntry T)) → tickets (filter (λ e. not (holds_ticket t e)) xs) ≡ but t (tickets xs)
  tickets-without t [] = refl
  tickets-without t (x ∷ xs) = without-cons t x.ticket x.message (filter (λ e. not (holds_ticket t e)) xs) (tickets xs) (tickets-without t xs)

  -- and one with a message is there
  there-cons : (t : ℕ) (o : Option ℕ) (x : T) (rest : List (LineEntry T)) (ts : List ℕ) (m : T) (ms : List T) → (messages rest ≡ m ∷ ms → has t ts ≡ true) → messages (cond (is_ticket t o) (record { message = x; ticket = o } ∷ rest) rest) ≡ m ∷ ms → has t (cons_option o ts) ≡ true
  there-cons t None x rest ts m ms k h = k h
  there-cons t (Some u) x rest ts m ms k h = elim (cases_Bool (u == t)) [ inl e ↦ rw e refl | inr e ↦ rw e (k (rw e at h)) ]

  pub found-some : (t : ℕ) (xs : List (LineEntry T)) (m : T) (ms : List T) → found t xs ≡ m ∷ ms → has t (tickets xs) ≡ true
  found-some t [] m ms h = absurd (cc)
  found-some t (x ∷ xs) m ms h = there-cons t x.ticket x.message (filter (holds_ticket t) xs) (tickets xs) m ms (λ k. found-some t xs m ms k) h

  pub tickets-append : (xs ys : List (LineEntry T)) → tickets (xs ++ ys) ≡ tickets xs ++ tickets ys
  tickets-append xs ys = filter_map-append (λ (x : LineEntry T). x.ticket) xs ys

  -- a line that waits for nothing has no ticket
  pub bare-tickets : (xs : List (LineEntry T)) → AllBare xs → tickets xs ≡ []
  bare-tickets [] a = refl
  bare-tickets (x ∷ xs) a = rw a.0 (bare-tickets xs a.1)

  -- the tickets are those at and above the capacity
  pub tickets-over : (c : Option ℕ) (xs : List (LineEntry T)) → IsSeated c xs → tickets xs ≡ tickets (over c xs)
  tickets-over c xs s = ap tickets (sym (under-over c xs)) ∙ (tickets-append (under c xs) (over c xs) ∙ ap (λ ts. ts ++ tickets (over c xs)) (bare-tickets (under c xs) s.0))

  wait-tail : (n : ℕ) (x : LineEntry T) (xs : List (LineEntry T)) → AllWait (drop n (x ∷ xs)) → AllWait (drop n xs)
  wait-tail zero x xs a = a.2
  wait-tail (suc n) x [] a = tail-none n
    where
      tail-none : (n : ℕ) → AllWait {T = T} (drop (suc n) [])
      tail-none n = tt
  wait-tail (suc n) x (y ∷ xs) a = wait-tail n y xs a

  -- what is over the capacity behind the front waits
  pub over-tail : (c : Option ℕ) (x : LineEntry T) (xs : List (LineEntry T)) → AllWait (over c (x ∷ xs)) → AllWait (over c xs)
  over-tail None x xs a = tt
  over-tail (Some n) x xs a = wait-tail n x xs a
