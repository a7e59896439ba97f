-- No step changes what a slot holds.
use Rattle.kanal_cell.proofs.Common.{◌≡◌, ℕ, zero, suc, ◌<◌, ◌⊎◌, inl, inr, List, [], ◌∷◌, length, sym, ◌∙◌, subst, arith, some, none, some-injective, some-ne-none, ℕ_discrete, get_elem?, Act, keeps, takes, gives, chain, Valid, homes_after, carried_after, IsNotLent, IsLentWith, LiesAtHome, IsOut, SlotLaw}
use Rattle.atomic_table.proofs.Lists.{set_here, set_else}
use mathlib.Core.Option as maybe

-- what is there has a place
within : {A : Type 0} (xs : List A) (k : ℕ) (x : A) → get_elem? xs k ≡ some x → k < length xs
within [] k x e = absurd (some-ne-none x (sym e))
within (y ∷ xs) zero x e = omega arith
within (y ∷ xs) (suc k) x e = let rest = within xs k x e in omega (arith, rest)

module _ {S : Type 0} where
  -- a slot is not both lent and not lent
  not_both : (k : ℕ) (v : S) (lent : List (ℕ × S)) → IsNotLent k lent → IsLentWith k v lent → ⊥
  not_both k v [] free lent = lent
  not_both k v (x ∷ lent) free (inl e) = free.0 e.0
  not_both k v (x ∷ lent) free (inr e) = not_both k v lent free.1 e.1

  -- the slot k holds v, at home or with the end
  abbrev Holds : ℕ → S → List (maybe.Option S) → List (ℕ × S) → Type 0
  Holds k v homes lent = (LiesAtHome k v homes × IsNotLent k lent) ⊎ (IsOut k homes × IsLentWith k v lent)

  -- a step keeps what the slot holds
  holds_on : (k : ℕ) (v : S) (homes : List (maybe.Option S)) (lent : List (ℕ × S)) (a : Act S) → Valid homes lent a → Holds k v homes lent → Holds k v (homes_after homes lent a) (carried_after lent a)
  holds_on k v homes lent keeps valid h = h
  holds_on k v homes lent (takes j y) valid (inl h) =
      elim (ℕ_discrete j k) [
        | yes e ↦
            let there : get_elem? homes k ≡ some (some y) = subst (λ i. get_elem? homes i ≡ some (some y)) e valid in
            let same : y ≡ v = some-injective y v (some-injective (some y) (some v) (sym there ∙ h.0)) in
            inr (subst (λ i. get_elem? (homes_after homes lent (takes i y)) k ≡ some none) (sym e) (set_here homes k none (within homes k _ there)), inl (e, same, h.1))
        | no n ↦ inl (set_else homes j k none (λ e. n (sym e)) ∙ h.0, (n, h.1))
      ]
  holds_on k v homes lent (takes j y) valid (inr h) =
      elim (ℕ_discrete j k) [
        | yes e ↦ absurd (some-ne-none y (some-injective (some y) none (sym (subst (λ i. get_elem? homes i ≡ some (some y)) e valid) ∙ h.0)))
        | no n ↦ inr (set_else homes j k none (λ e. n (sym e)) ∙ h.0, inr (n, h.1))
      ]
  holds_on k v homes [] gives valid h = h
  holds_on k v homes (x ∷ lent) gives valid (inl h) = inl (set_else homes x.0 k (some x.1) (λ e. h.1.0 (sym e)) ∙ h.0, h.1.1)
  holds_on k v homes (x ∷ lent) gives valid (inr (out, inl e)) =
      let here : get_elem? (homes_after homes ((k, v) ∷ lent) gives) k ≡ some (some v) = set_here homes k (some v) (within homes k _ out) in
      inl (subst (λ y. get_elem? (homes_after homes (y ∷ lent) gives) k ≡ some (some v)) (sym (pair x e.0 e.1)) here, e.2)
    where
      pair : (y : ℕ × S) → y.0 ≡ k → y.1 ≡ v → y ≡ (k, v)
      pair y p q = λ i. (p i, q i)
  holds_on k v homes (x ∷ lent) gives valid (inr (out, inr e)) = inr (set_else homes x.0 k (some x.1) (λ p. e.0 (sym p)) ∙ out, e.1)
  holds_on k v homes lent (chain a b) valid h = holds_on k v (homes_after homes lent a) (carried_after lent a) b valid.1 (holds_on k v homes lent a valid.0 h)

  -- a slot that another end is lent stays out
  stays_out : (k : ℕ) (homes : List (maybe.Option S)) (lent : List (ℕ × S)) (a : Act S) → Valid homes lent a → IsOut k homes → IsNotLent k lent → IsOut k (homes_after homes lent a) × IsNotLent k (carried_after lent a)
  stays_out k homes lent keeps valid out free = (out, free)
  stays_out k homes lent (takes j y) valid out free =
      elim (ℕ_discrete j k) [
        | yes e ↦ absurd (some-ne-none y (some-injective (some y) none (sym (subst (λ i. get_elem? homes i ≡ some (some y)) e valid) ∙ out)))
        | no n ↦ (set_else homes j k none (λ e. n (sym e)) ∙ out, (n, free))
      ]
  stays_out k homes [] gives valid out free = (out, free)
  stays_out k homes (x ∷ lent) gives valid out free = (set_else homes x.0 k (some x.1) (λ e. free.0 (sym e)) ∙ out, free.1)
  stays_out k homes lent (chain a b) valid out free =
      let mid = stays_out k homes lent a valid.0 out free in
      stays_out k (homes_after homes lent a) (carried_after lent a) b valid.1 mid.0 mid.1

  -- of a slot that is lent, what it holds is one
  lent_one : (k : ℕ) (v w : S) (lent : List (ℕ × S)) → IsLentWith k v lent → IsLentWith k w lent → v ≡ w
  lent_one k v w [] a b = absurd a
  lent_one k v w (x ∷ lent) (inl a) (inl b) = sym a.1 ∙ b.1
  lent_one k v w (x ∷ lent) (inl a) (inr b) = absurd (b.0 a.0)
  lent_one k v w (x ∷ lent) (inr a) (inl b) = absurd (a.0 b.0)
  lent_one k v w (x ∷ lent) (inr a) (inr b) = lent_one k v w lent a.1 b.1

  -- what is lent after a step, where it held v
  taken_of : (k : ℕ) (v w : S) (homes : List (maybe.Option S)) (lent : List (ℕ × S)) → Holds k v homes lent → IsLentWith k w lent → w ≡ v
  taken_of k v w homes lent (inl h) l = absurd (not_both k w lent h.1 l)
  taken_of k v w homes lent (inr h) l = lent_one k w v lent l h.1

  -- what lies at home after a step, where it held v
  home_of : (k : ℕ) (v : S) (homes : List (maybe.Option S)) (lent : List (ℕ × S)) → Holds k v homes lent → IsNotLent k lent → LiesAtHome k v homes
  home_of k v homes lent (inl h) free = h.0
  home_of k v homes lent (inr h) free = absurd (not_both k v lent free h.1)

pub slot_law : {P : Type 0} → SlotLaw P
slot_law = record {
  taken = λ k v w homes lent a valid home free l. taken_of k v w _ _ (holds_on k v homes lent a valid (inl (home, free))) l;
  given = λ k v homes lent a valid out l free. home_of k v _ _ (holds_on k v homes lent a valid (inr (out, l))) free;
  untouched = λ k v homes lent a valid home free free'. home_of k v _ _ (holds_on k v homes lent a valid (inl (home, free))) free';
  elsewhere = λ k homes lent a valid out free. stays_out k homes lent a valid out free;
}
