-- Which places some seat has, whatever step a seat makes.
use Rattle.kanal_log.proofs.Common.{◌≡◌, ◌≢◌, ◌⊎◌, ℕ, zero, suc, List, [], ◌∷◌, ◌++◌, length, set, refl, sym, ap, ◌∙◌, subst, ⊎_elim, inl, inr, some, some-ne-none, some-injective, get_elem?, LogView, nothing, IsAmong, all_own, IsOwned, beside, reader_view}
use Rattle.kanal_log.proofs.Places.{among-cases, among-left, among-right}

module _ {A : Type 0} where
  -- what stands at a place stays, or it is what was replaced
  stays : (l : List A) (i j : ℕ) (a v b : A) → get_elem? l i ≡ some v → get_elem? l j ≡ some b → ((j ≡ i) × (v ≡ b)) ⊎ (get_elem? (set l i a) j ≡ some b)
  stays [] i j a v b e f = absurd (some-ne-none v (sym e))
  stays (x ∷ xs) zero zero a v b e f = inl (refl, some-injective v b (sym e ∙ f))
  stays (x ∷ xs) zero (suc j) a v b e f = inr f
  stays (x ∷ xs) (suc i) zero a v b e f = inr f
  stays (x ∷ xs) (suc i) (suc j) a v b e f = ⊎_elim (λ t. inl (ap suc t.0, t.1)) (λ t. inr t) (stays xs i j a v b e f)

  here : (l : List A) (i : ℕ) (a v : A) → get_elem? l i ≡ some v → get_elem? (set l i a) i ≡ some a
  here [] i a v e = absurd (some-ne-none v (sym e))
  here (x ∷ xs) zero a v e = refl
  here (x ∷ xs) (suc i) a v e = here xs i a v e

  longer : (l m : List A) (i : ℕ) (a : A) → get_elem? l i ≡ some a → get_elem? (l ++ m) i ≡ some a
  longer [] m i a e = absurd (some-ne-none a (sym e))
  longer (x ∷ xs) m zero a e = e
  longer (x ∷ xs) m (suc i) a e = longer xs m i a e

  last : (l : List A) (a : A) → get_elem? (l ++ a ∷ []) (length l) ≡ some a
  last [] a = refl
  last (x ∷ xs) a = last xs a

module _ {E : Type 0} (views : List (LogView E)) (by : ℕ) (v : LogView E) (at : get_elem? views by ≡ some v) where
  moved : (k : ℕ) (u w : LogView E) → u ≡ w → IsAmong k (all_own w) → IsAmong k (all_own u)
  moved k u w e a = subst (λ (x : LogView E). IsAmong k (all_own x)) (sym e) a

  -- a seat keeps its places
  pub owned-set : (w : LogView E) (k : ℕ) → (IsAmong k (all_own v) → IsAmong k (all_own w)) → IsOwned views k → IsOwned (set views by w) k
  owned-set w k sup o =
      ⊎_elim
      (λ (x : (o.by ≡ by) × (v ≡ o.view)). record { by = by; view = w; stands = here views by w v at; mine = sup (moved k v o.view x.1 o.mine) })
      (λ (x : get_elem? (set views by w) o.by ≡ some o.view). record { by = o.by; view = o.view; stands = x; mine = o.mine })
      (stays views by o.by w v o.view at o.stands)

  -- a seat has this place now
  pub owned-new : (w : LogView E) (k : ℕ) → IsAmong k (all_own w) → IsOwned (set views by w) k
  owned-new w k a = record { by = by; view = w; stands = here views by w v at; mine = a }

  -- a seat's places are cut in two
  pub owned-split : (left right : LogView E) (k : ℕ) → (IsAmong k (all_own v) → IsAmong k (all_own left) ⊎ IsAmong k (all_own right)) → IsOwned views k → IsOwned (set views by left ++ right ∷ []) k
  owned-split left right k sup o =
      ⊎_elim
      (λ (x : (o.by ≡ by) × (v ≡ o.view)).
      ⊎_elim
      (λ (a : IsAmong k (all_own left)). record { by = by; view = left; stands = longer (set views by left) (right ∷ []) by left (here views by left v at); mine = a })
      (λ (a : IsAmong k (all_own right)). record { by = length (set views by left); view = right; stands = last (set views by left) right; mine = a })
      (sup (moved k v o.view x.1 o.mine)))
      (λ (x : get_elem? (set views by left) o.by ≡ some o.view). record { by = o.by; view = o.view; stands = longer (set views by left) (right ∷ []) o.by o.view x; mine = o.mine })
      (stays views by o.by left v o.view at o.stands)

  -- a seat takes in another's places
  pub owned-join : (other : ℕ) (w : LogView E) → other ≢ by → get_elem? (set views by (beside v w)) other ≡ some w → v.others_own ≡ [] → w.others_own ≡ [] → (k : ℕ) → IsOwned views k → IsOwned (set (set views by (beside v w)) other (reader_view [] [] nothing)) k
  owned-join other w apart there none none' k o =
      let both : LogView E = beside v w in
      let end : LogView E = reader_view [] [] nothing in
      let mid : List (LogView E) = set views by both in
      let at_both : get_elem? mid by ≡ some both = here views by both v at in
      let done : IsAmong k (all_own both) → IsOwned (set mid other end) k = λ a.
      ⊎_elim
      (λ (x : (by ≡ other) × (w ≡ both)). absurd (apart (sym x.0)))
      (λ (x : get_elem? (set mid other end) by ≡ some both). record { by = by; view = both; stands = x; mine = a })
      (stays mid other by end w both there at_both) in
      ⊎_elim
      (λ (x : (o.by ≡ by) × (v ≡ o.view)).
      ⊎_elim
      (λ (a : IsAmong k v.others_own). absurd (subst (λ (xs : List ℕ). IsAmong k xs) none a))
      (λ (a : IsAmong k v.own). done (among-right k w.own v.own a))
      (among-cases k v.others_own v.own (moved k v o.view x.1 o.mine)))
      (λ (x : get_elem? mid o.by ≡ some o.view).
      ⊎_elim
      (λ (y : (o.by ≡ other) × (w ≡ o.view)).
      ⊎_elim
      (λ (a : IsAmong k w.others_own). absurd (subst (λ (xs : List ℕ). IsAmong k xs) none' a))
      (λ (a : IsAmong k w.own). done (among-left k w.own v.own a))
      (among-cases k w.others_own w.own (moved k w o.view y.1 o.mine)))
      (λ (y : get_elem? (set mid other end) o.by ≡ some o.view). record { by = o.by; view = o.view; stands = y; mine = o.mine })
      (stays mid other o.by end w o.view there x))
      (stays views by o.by both v o.view at o.stands)
