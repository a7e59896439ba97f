-- Reading a history at places.
use Rattle.kanal_exchange.proofs.Common.{◌≡◌, ◌+◌, ◌<◌, ◌≤◌, ◌==◌, ◌⊎◌, ℕ, suc, Bool, true, false, cond, List, [], ◌∷◌, ◌++◌, length, HoldsAt, refl, sym, ap, ◌∙◌, subst, ⊎_elim, inl, inr, arith, append_assoc, cases_Bool, IsPrefix, IsAmong, AreDisjoint, AreBelow, among-cases, among-left, among-right, is_among, read_at}
use Rattle.std.proofs.lemmas.List.{append-nil}
use Rattle.std.proofs.lemmas.Bool.Decides.{Decides-eqb}

-- two lists that are nothing together are nothing
pub left-nil : {X : Type 0} (us bs : List X) → us ++ bs ≡ [] → us ≡ []
left-nil [] bs e = refl
left-nil (a ∷ us) bs e = absurd (cc)

pub right-nil : {X : Type 0} (us bs : List X) → us ++ bs ≡ [] → bs ≡ []
right-nil [] bs e = e
right-nil (a ∷ us) bs e = absurd (cc)

-- what f reads from all entries, in order
abbrev pub read_all : {E X : Type 0} → (E → List X) → List E → List X
read_all f [] = []
read_all f (e ∷ es) = f e ++ read_all f es

-- each entry stands at one of the places or is unowned; the first has the place n
abbrev pub AreCovered : {E : Type 0} → (E → Type 0) → List ℕ → ℕ → List E → Type 0
AreCovered unowned own n [] = Unit {0}
AreCovered unowned own n (e ∷ es) = (IsAmong n own ⊎ unowned e) × AreCovered unowned own (suc n) es

-- the test and the fact
pub at-true : (k : ℕ) (xs : List ℕ) → IsAmong k xs → is_among k xs ≡ true
at-true k [] a = absurd a
at-true k (x ∷ xs) (inl e) = let t : (k == x) ≡ true = (Decides-eqb k x).1 e in rw t refl
at-true k (x ∷ xs) (inr a) =
    let t = at-true k xs a in
    elim (cases_Bool (k == x)) [
      | inl u ↦ rw u refl
      | inr u ↦ rw u t
    ]

pub at-false : (k : ℕ) (xs : List ℕ) → (IsAmong k xs → ⊥) → is_among k xs ≡ false
at-false k [] a = refl
at-false k (x ∷ xs) a =
    elim (cases_Bool (k == x)) [
      | inl t ↦ absurd (a (inl ((Decides-eqb k x).0 t)))
      | inr t ↦ let u = at-false k xs (λ b. a (inr b)) in rw t u
    ]

module _ {E X : Type 0} (f : E → List X) where
  pub read-append : (own : List ℕ) (n : ℕ) (xs ys : List E) → read_at f own n (xs ++ ys) ≡ read_at f own n xs ++ read_at f own (n + length xs) ys
  read-append own n [] ys = ap (λ k. read_at f own k ys) (omega arith)
  read-append own n (x ∷ xs) ys =
      let r = read-append own (suc n) xs ys in
      let s : suc n + length xs ≡ n + suc (length xs) = omega arith in
      let t : read_at f own (suc n) (xs ++ ys) ≡ read_at f own (suc n) xs ++ read_at f own (n + suc (length xs)) ys = r ∙ ap (λ k. read_at f own (suc n) xs ++ read_at f own k ys) s in
      ap (λ zs. cond (is_among n own) (f x) [] ++ zs) t ∙ sym (append_assoc (cond (is_among n own) (f x) []) (read_at f own (suc n) xs) (read_at f own (n + suc (length xs)) ys))

  -- nothing is read behind all places
  pub read-behind : (own : List ℕ) (m n : ℕ) (xs : List E) → AreBelow m own → m ≤ n → read_at f own n xs ≡ []
  read-behind own m n [] below le = refl
  read-behind own m n (x ∷ xs) below le =
      let out : is_among n own ≡ false = at-false n own (λ a. let b = below n a in absurd (omega arith)) in
      let rest = read-behind own m (suc n) xs below (omega arith) in
      rw (out, rest) refl

  -- a place that is not there changes nothing
  pub read-more : (p : ℕ) (own : List ℕ) (n : ℕ) (xs : List E) → n + length xs ≤ p → read_at f (p ∷ own) n xs ≡ read_at f own n xs
  read-more p own n [] le = refl
  read-more p own n (x ∷ xs) le =
      let r = read-more p own (suc n) xs (omega arith) in
      elim (cases_Bool (n == p)) [
        | inl t ↦ let e : n ≡ p = (Decides-eqb n p).0 t in absurd (omega arith)
        | inr t ↦ rw (t, r) refl
      ]

  pub read-longer : (own : List ℕ) (xs ys : List E) → AreBelow (length xs) own → IsPrefix xs ys → read_at f own 0 ys ≡ read_at f own 0 xs
  read-longer own xs ys below p =
      subst (λ (zs : List E). read_at f own 0 zs ≡ read_at f own 0 xs) p.1
      (read-append own 0 xs p.0 ∙ (ap (λ zs. read_at f own 0 xs ++ zs) (read-behind own (length xs) (0 + length xs) p.0 below (omega arith)) ∙ append-nil (read_at f own 0 xs)))

  -- a call more, at its own place
  pub read-call : (own : List ℕ) (old before : List E) (call : E) → AreBelow (length old) own → IsPrefix old before → read_at f (length before ∷ own) 0 (before ++ call ∷ []) ≡ read_at f own 0 old ++ f call
  read-call own old before call below p =
      let a = read-append (length before ∷ own) 0 before (call ∷ []) in
      let b = read-more (length before) own 0 before (omega arith) in
      let c = read-longer own old before below p in
      let here : is_among (0 + length before) (length before ∷ own) ≡ true = at-true (0 + length before) (length before ∷ own) (inl (omega arith)) in
      a ∙ (ap (λ zs. zs ++ read_at f (length before ∷ own) (0 + length before) (call ∷ [])) (b ∙ c) ∙ ap (λ zs. read_at f own 0 old ++ zs) (rw here (append-nil (f call))))

  -- where each entry at the places of neither reads as nothing, and nothing is read at those of one, all is read at those of the other
  pub read-whole : (unowned : E → Type 0) → ((e : E) → unowned e → f e ≡ []) → (mine theirs : List ℕ) (n : ℕ) (xs : List E) → AreCovered unowned (theirs ++ mine) n xs → AreDisjoint mine theirs → read_at f theirs n xs ≡ [] → read_all f xs ≡ read_at f mine n xs
  read-whole unowned none-read mine theirs n [] all apart none = refl
  read-whole unowned none-read mine theirs n (x ∷ xs) all apart none =
      let front : cond (is_among n theirs) (f x) [] ≡ [] = left-nil (cond (is_among n theirs) (f x) []) (read_at f theirs (suc n) xs) none in
      let back : read_at f theirs (suc n) xs ≡ [] = right-nil (cond (is_among n theirs) (f x) []) (read_at f theirs (suc n) xs) none in
      let r = read-whole unowned none-read mine theirs (suc n) xs all.1 apart back in
      let head : f x ≡ cond (is_among n mine) (f x) [] =
      ⊎_elim
      (λ (a : IsAmong n (theirs ++ mine)).
      ⊎_elim
      (λ (b : IsAmong n theirs). let t = at-true n theirs b in let u = at-false n mine (λ m. apart n m b) in let e : f x ≡ [] = subst (λ (c : Bool). cond c (f x) [] ≡ []) t front in rw u e)
      (λ (m : IsAmong n mine). let t = at-true n mine m in rw t refl)
      (among-cases n theirs mine a))
      (λ (s : unowned x). let e : f x ≡ [] = none-read x s in still (is_among n mine) (f x) e)
      all.0 in
      ap (λ zs. zs ++ read_all f xs) head ∙ ap (λ zs. cond (is_among n mine) (f x) [] ++ zs) r
    where
      still : (b : Bool) (us : List X) → us ≡ [] → us ≡ cond b us []
      still true us e = refl
      still false us e = e

-- where each entry is own or unowned, they are covered
pub covered-all : {E : Type 0} (unowned : E → Type 0) (own : List ℕ) (n : ℕ) (xs : List E) → ((k : ℕ) → k < length xs → IsAmong (n + k) own ⊎ HoldsAt unowned xs k) → AreCovered unowned own n xs
covered-all unowned own n [] all = tt
covered-all unowned own n (x ∷ xs) all =
    let here : n + 0 ≡ n = omega arith in (
      ⊎_elim (λ (a : IsAmong (n + 0) own). inl (subst (λ k. IsAmong k own) here a)) (λ (q : HoldsAt unowned (x ∷ xs) 0). inr (q x)) (all 0 (omega arith)),
      covered-all unowned own (suc n) xs (λ k lt.
          let next : n + suc k ≡ suc n + k = omega arith in
          ⊎_elim (λ (a : IsAmong (n + suc k) own). inl (subst (λ j. IsAmong j own) next a)) (λ (q : HoldsAt unowned (x ∷ xs) (suc k)). inr (λ d. q d)) (all (suc k) (omega arith))),
    )

-- covered by other places, among which all of these are
pub covered-more : {E : Type 0} (unowned : E → Type 0) (own more : List ℕ) (n : ℕ) (xs : List E) → ((k : ℕ) → IsAmong k own → IsAmong k more) → AreCovered unowned own n xs → AreCovered unowned more n xs
covered-more unowned own more n [] of all = tt
covered-more unowned own more n (x ∷ xs) of all = (⊎_elim (λ (a : IsAmong n own). inl (of n a)) (λ (q : unowned x). inr q) all.0, covered-more unowned own more (suc n) xs of all.1)

-- places in the other order
pub among-swap : (xs ys : List ℕ) (k : ℕ) → IsAmong k (xs ++ ys) → IsAmong k (ys ++ xs)
among-swap xs ys k a = ⊎_elim (λ (x : IsAmong k xs). among-right k ys xs x) (λ (y : IsAmong k ys). among-left k ys xs y) (among-cases k xs ys a)
