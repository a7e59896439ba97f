-- The places below the capacity wait for nothing, and those above it wait: kept by each step.
use Rattle.kanal_journal.proofs.Common.{◌≡◌, ℕ, ◌≤◌, zero, suc, true, false, not, List, [], ◌∷◌, ◌++◌, length, map, filter, take, drop, Option, Some, None, refl, inl, inr, arith, append-nil, cases_Bool, ltb-true, lt-ltb, LineEntry, bare, waiting, tickets, over, holds_ticket, is_ticket, is_below, seated}
use Rattle.kanal_journal.proofs.Settling.{AreApart, AllBare, AllWait, IsSeated}

none_there : (T : Type 0) (c : ℕ) → AllBare {T = T} (take c []) × AllWait {T = T} (drop c [])
none_there T zero = (tt, tt)
none_there T (suc c) = (tt, tt)

module _ {T : Type 0} where
  bare_all : (xs : List (LineEntry T)) → AllBare (map (λ x. bare x.message) xs)
  bare_all [] = tt
  bare_all (x ∷ xs) = (refl, bare_all xs)

  pub seats_seated : (c : Option ℕ) (xs : List (LineEntry T)) → AllWait (over c xs) → IsSeated c (seated c xs)
  seats_seated None xs w = (rw append-nil (bare_all xs), tt)
  seats_seated (Some zero) xs w = (tt, w)
  seats_seated (Some (suc c)) [] w = (tt, tt)
  seats_seated (Some (suc c)) (x ∷ xs) w = let rec = seats_seated (Some c) xs w in ((refl, rec.0), rec.1)

  pub seats_entered : (c : Option ℕ) (xs : List (LineEntry T)) (m : T) → is_below (length xs) c ≡ true → IsSeated c xs → IsSeated c (xs ++ bare m ∷ [])
  seats_entered None [] m b s = ((refl, tt), tt)
  seats_entered None (x ∷ xs) m b s = let rec = seats_entered None xs m refl (s.0.1, tt) in ((s.0.0, rec.0), tt)
  seats_entered (Some zero) xs m b s = absurd (omega (arith, ltb-true (length xs) 0 b))
  seats_entered (Some (suc c)) [] m b s = let none = none_there T c in ((refl, none.0), none.1)
  seats_entered (Some (suc c)) (x ∷ xs) m b s = let rec = seats_entered (Some c) xs m (lt-ltb (length xs) c (omega (arith, ltb-true (suc (length xs)) (suc c) b))) (s.0.1, s.1) in ((s.0.0, rec.0), rec.1)

  wait_last : (xs : List (LineEntry T)) (m : T) (t : ℕ) → AllWait xs → AllWait (xs ++ waiting m t ∷ [])
  wait_last [] m t w = (t, refl, tt)
  wait_last (x ∷ xs) m t w = (w.0, w.1, wait_last xs m t w.2)

  pub seats_waiting : (c : ℕ) (xs : List (LineEntry T)) (m : T) (t : ℕ) → c ≤ length xs → IsSeated (Some c) xs → IsSeated (Some c) (xs ++ waiting m t ∷ [])
  seats_waiting zero xs m t b s = (tt, wait_last xs m t s.1)
  seats_waiting (suc c) [] m t b s = absurd (omega arith)
  seats_waiting (suc c) (x ∷ xs) m t b s = let rec = seats_waiting c xs m t (omega arith) (s.0.1, s.1) in ((s.0.0, rec.0), rec.1)

  wait_filter : (t : ℕ) (xs : List (LineEntry T)) → AllWait xs → AllWait (filter (λ x. not (holds_ticket t x)) xs)
  wait_filter t [] w = tt
  wait_filter t (x ∷ xs) w = elim (cases_Bool (is_ticket t x.ticket)) [ inl h ↦ rw h (wait_filter t xs w.2) | inr h ↦ rw h (w.0, w.1, wait_filter t xs w.2) ]

  pub seats_withdrawn : (c : ℕ) (t : ℕ) (xs : List (LineEntry T)) → IsSeated (Some c) xs → IsSeated (Some c) (filter (λ x. not (holds_ticket t x)) xs)
  seats_withdrawn zero t xs s = (tt, wait_filter t xs s.1)
  seats_withdrawn (suc c) t [] s = (tt, tt)
  seats_withdrawn (suc c) t (x ∷ xs) s =
      let rec = seats_withdrawn c t xs (s.0.1, s.1) in
      let off : is_ticket t x.ticket ≡ false = rw s.0.0 in
      rw off ((s.0.0, rec.0), rec.1)

  pub tickets_seated : (c : Option ℕ) (xs : List (LineEntry T)) → tickets (seated c xs) ≡ tickets (over c xs)
  tickets_seated None [] = refl
  tickets_seated None (x ∷ xs) = tickets_seated None xs
  tickets_seated (Some zero) xs = refl
  tickets_seated (Some (suc c)) [] = refl
  tickets_seated (Some (suc c)) (x ∷ xs) = tickets_seated (Some c) xs

pub apart_suffix : (xs ys : List ℕ) → AreApart (xs ++ ys) → AreApart ys
apart_suffix [] ys a = a
apart_suffix (x ∷ xs) ys a = apart_suffix xs ys a.1
