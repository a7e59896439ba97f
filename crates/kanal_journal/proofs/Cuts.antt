-- A cut of a run is a run, and what the report says of the first steps is what that run tells.
use Rattle.kanal_journal.proofs.Common.{◌≡◌, ℕ, ◌≤◌, ◌<◌, ltb, List, [], ◌∷◌, ◌++◌, length, filter, refl, sym, ap, ◌∙◌, arith, length-append, append-nil, append_assoc, lt-ltb, le-ltb, filter-append, Event, Outcome, Settlement, Account, Leads, numbered}

module _ {T : Type 0} where
  abbrev pub AllBefore : ℕ → List (Settlement T) → Type 0
  AllBefore n [] = Unit {0}
  AllBefore n (s ∷ ss) = (s.step < n) × AllBefore n ss

  abbrev pub AllFrom : ℕ → List (Settlement T) → Type 0
  AllFrom n [] = Unit {0}
  AllFrom n (s ∷ ss) = (n ≤ s.step) × AllFrom n ss

  pub before_more : (n k : ℕ) (ss : List (Settlement T)) → n ≤ k → AllBefore n ss → AllBefore k ss
  before_more n k [] h a = tt
  before_more n k (s ∷ ss) h a = (let x = a.0 in omega arith, before_more n k ss h a.1)

  from_less : (n k : ℕ) (ss : List (Settlement T)) → k ≤ n → AllFrom n ss → AllFrom k ss
  from_less n k [] h a = tt
  from_less n k (s ∷ ss) h a = (let x = a.0 in omega arith, from_less n k ss h a.1)

  pub before-append : (n : ℕ) (xs ys : List (Settlement T)) → AllBefore n xs → AllBefore n ys → AllBefore n (xs ++ ys)
  before-append n [] ys a b = b
  before-append n (x ∷ xs) ys a b = (a.0, before-append n xs ys a.1 b)

  from-append : (n : ℕ) (xs ys : List (Settlement T)) → AllFrom n xs → AllFrom n ys → AllFrom n (xs ++ ys)
  from-append n [] ys a b = b
  from-append n (x ∷ xs) ys a b = (a.0, from-append n xs ys a.1 b)

  numbered_from : (n : ℕ) (ss : List (ℕ × Outcome T)) → AllFrom n (numbered n ss)
  numbered_from n [] = tt
  numbered_from n (s ∷ ss) = (omega arith, numbered_from n ss)

  filter_before : (n : ℕ) (xs : List (Settlement T)) → AllBefore n xs → filter (λ s. ltb s.step n) xs ≡ xs
  filter_before n [] a = refl
  filter_before n (x ∷ xs) a = rw (lt-ltb x.step n a.0) (ap (λ ys. x ∷ ys) (filter_before n xs a.1))

  filter_from : (n : ℕ) (xs : List (Settlement T)) → AllFrom n xs → filter (λ s. ltb s.step n) xs ≡ []
  filter_from n [] a = refl
  filter_from n (x ∷ xs) a = rw (le-ltb x.step n a.0) (filter_from n xs a.1)

  -- what comes later is added at the ends
  pub record Grows (a b : Account T) : Type 0 where
    pub settled : List (Settlement T)
    pub settled_is : b.settled ≡ a.settled ++ settled
    pub from : AllFrom (length a.replies) settled
    pub drained : List T
    pub drained_is : b.drained ≡ a.drained ++ drained

  pub grows : (a b : Account T) (events : List (Event T)) → Leads a events b → Grows a b
  grows a b [] l = record { settled = []; settled_is = ap (λ x. x.settled) l ∙ sym (append-nil a.settled); from = tt; drained = []; drained_is = ap (λ x. x.drained) l ∙ sym (append-nil a.drained) }
  grows a b (e ∷ es) l =
      let rec = grows l.0 b es l.2 in
      let told = l.1.0 in
      let long : length a.replies ≤ length l.0.replies = omega (arith, ap (λ x. length x.replies) l.1.2, length-append a.replies (told.reply ∷ [])) in
      record {
        settled = numbered (length a.replies) told.settled ++ rec.settled;
        settled_is = rec.settled_is ∙ (ap (λ x. x.settled ++ rec.settled) l.1.2 ∙ append_assoc a.settled (numbered (length a.replies) told.settled) rec.settled);
        from = from-append (length a.replies) (numbered (length a.replies) told.settled) rec.settled (numbered_from (length a.replies) told.settled) (from_less (length l.0.replies) (length a.replies) rec.settled long rec.from);
        drained = told.drained ++ rec.drained;
        drained_is = rec.drained_is ∙ (ap (λ x. x.drained ++ rec.drained) l.1.2 ∙ append_assoc a.drained told.drained rec.drained);
      }

  -- the settlements of the steps so far are those with a smaller number
  pub settled_before : (a b : Account T) (events : List (Event T)) → Leads a events b → AllBefore (length a.replies) a.settled → filter (λ s. ltb s.step (length a.replies)) b.settled ≡ a.settled
  settled_before a b events l h =
      let g = grows a b events l in
      rw (g.settled_is, filter-append, filter_before (length a.replies) a.settled h, filter_from (length a.replies) g.settled g.from) (append-nil a.settled)
