-- Lists of places.
use Rattle.kanal_log.proofs.Common.{◌≡◌, ◌+◌, ◌<◌, ◌≤◌, ℕ, ◌⊎◌, inl, inr, List, [], ◌∷◌, ◌++◌, length, get_or, HoldsAt, refl, sym, subst, ⊎_elim, lt_of_not-le, arith, length-append, length-drop, IsPrefix, dite, dec_le, Share, IsAmong, AreDisjoint, AreDistinct, Addition, no_entry, own_entry, unowned_entry, entries, place_of, MayAdd, IsUnownedBehind}
use Rattle.std.proofs.lemmas.List.{get_or_append_left, get_or-append-add, get_or-drop}

pub among-cases : (k : ℕ) (xs ys : List ℕ) → IsAmong k (xs ++ ys) → IsAmong k xs ⊎ IsAmong k ys
among-cases k [] ys a = inr a
among-cases k (x ∷ xs) ys (inl e) = inl (inl e)
among-cases k (x ∷ xs) ys (inr a) = ⊎_elim (λ b. inl (inr b)) (λ b. inr b) (among-cases k xs ys a)

pub among-left : (k : ℕ) (xs ys : List ℕ) → IsAmong k xs → IsAmong k (xs ++ ys)
among-left k [] ys a = absurd a
among-left k (x ∷ xs) ys (inl e) = inl e
among-left k (x ∷ xs) ys (inr a) = inr (among-left k xs ys a)

pub among-right : (k : ℕ) (xs ys : List ℕ) → IsAmong k ys → IsAmong k (xs ++ ys)
among-right k [] ys a = a
among-right k (x ∷ xs) ys a = inr (among-right k xs ys a)

pub distinct-append : (xs ys : List ℕ) → AreDistinct xs → AreDistinct ys → AreDisjoint xs ys → AreDistinct (xs ++ ys)
distinct-append [] ys d e apart = e
distinct-append (x ∷ xs) ys d e apart =
    ((λ a. ⊎_elim (λ b. d.0 b) (λ b. apart x (inl refl) b) (among-cases x xs ys a)), distinct-append xs ys d.1 e (λ k a b. apart k (inr a) b))

pub distinct-left : (xs ys : List ℕ) → AreDistinct (xs ++ ys) → AreDistinct xs
distinct-left [] ys d = tt
distinct-left (x ∷ xs) ys d = ((λ a. d.0 (among-left x xs ys a)), distinct-left xs ys d.1)

pub distinct-right : (xs ys : List ℕ) → AreDistinct (xs ++ ys) → AreDistinct ys
distinct-right [] ys d = d
distinct-right (x ∷ xs) ys d = distinct-right xs ys d.1

pub distinct-apart : (xs ys : List ℕ) → AreDistinct (xs ++ ys) → AreDisjoint xs ys
distinct-apart [] ys d k a b = absurd a
distinct-apart (x ∷ xs) ys d k (inl e) b = d.0 (among-right x xs ys (rw (← e) b))
distinct-apart (x ∷ xs) ys d k (inr a) b = distinct-apart xs ys d.1 k a b

module _ {E : Type 0} where
  -- the place of an entry that is added stands behind the history
  pub among-place : (log : List E) (more : Addition E) (k : ℕ) → IsAmong k (place_of log more) → (k ≡ length log) × (0 < length (entries more))
  among-place log no_entry k a = absurd a
  among-place log (own_entry e) k (inl same) = (same, omega arith)
  among-place log (own_entry e) k (inr a) = absurd a
  among-place log (unowned_entry e) k a = absurd a

  pub place-distinct : (log : List E) (more : Addition E) → AreDistinct (place_of log more)
  place-distinct log no_entry = tt
  place-distinct log (own_entry e) = ((λ a. a), tt)
  place-distinct log (unowned_entry e) = tt

  -- what is unowned stays so where the history grows
  pub unowned-longer : (unowned : E → Type 0) (log more : List E) (k : ℕ) → k < length log → HoldsAt unowned log k → HoldsAt unowned (log ++ more) k
  unowned-longer unowned log more k lt q d = subst unowned (sym (get_or_append_left log more d k lt)) (q d)

  -- what is unowned in a history is so in a beginning of it
  pub unowned-shorter : (unowned : E → Type 0) (log all : List E) → IsPrefix log all → (k : ℕ) → k < length log → HoldsAt unowned all k → HoldsAt unowned log k
  unowned-shorter unowned log all p k lt q d = subst unowned (get_or_append_left log p.0 d k lt) (subst (λ l. HoldsAt unowned l k) (sym p.1) q d)

  -- an entry behind the history has the place that is added, or it is unowned
  pub place-covers : (unowned : E → Type 0) (share : Share) (log : List E) (more : Addition E) → MayAdd unowned share more → (k : ℕ) → k < length (log ++ entries more) → (k < length log) ⊎ (IsAmong k (place_of log more) ⊎ HoldsAt unowned (log ++ entries more) k)
  place-covers unowned share log no_entry may k lt = inl (omega (arith, length-append log []))
  place-covers unowned share log (own_entry e) may k lt =
      dite (dec_le (length log) k)
      (λ (d : length log ≤ k). inr (inl (inl (omega (arith, length-append log (e ∷ []))))))
      (λ (never : length log ≤ k → ⊥). inl (lt_of_not-le never))
  place-covers unowned share log (unowned_entry e) may k lt =
      dite (dec_le (length log) k)
      (λ (d : length log ≤ k).
      let last : length log + 0 ≡ k = omega (arith, length-append log (e ∷ [])) in
      inr (inr (λ x. subst (λ n. unowned (get_or (log ++ e ∷ []) n x)) last (subst unowned (sym (get_or-append-add log (e ∷ []) 0 x)) may))))
      (λ (never : length log ≤ k → ⊥). inl (lt_of_not-le never))

  -- who has no share gets no place
  pub none-more : (unowned : E → Type 0) (share : Share) (log : List E) (more : Addition E) (own : List ℕ) → MayAdd unowned share more → share.count ≡ 0 → own ≡ [] → place_of log more ++ own ≡ []
  none-more unowned share log no_entry own may none e = e
  none-more unowned share log (own_entry x) own may none e = absurd (omega (arith, may))
  none-more unowned share log (unowned_entry x) own may none e = e

  -- where each place behind what was seen is unowned, all behind it is
  pub unowned-behind : (unowned : E → Type 0) (seen log : List E) → ((k : ℕ) → length seen ≤ k → k < length log → HoldsAt unowned log k) → IsUnownedBehind unowned seen log
  unowned-behind unowned seen log q k d lt = subst unowned (sym (get_or-drop (length seen) log k d)) (q (length seen + k) (omega arith) (omega (arith, length-drop (length seen) log)) d)
