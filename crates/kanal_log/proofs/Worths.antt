-- The shares of all views together are no more than all of the right, whatever step a seat makes.
use Rattle.kanal_log.proofs.Common.{◌≡◌, ◌≢◌, ◌+◌, ◌≤◌, ℕ, zero, suc, List, [], ◌∷◌, ◌++◌, set, refl, sym, ap, subst, arith, some, some-ne-none, some-injective, get_elem?, LogView, doubled, worth, all_worth, worth_of, IsHalvedUpTo, AreHalvedUpTo, AreShared}
use Rattle.kanal_log.proofs.Shares.{doubled-sum, doubled-twice, doubled-most, doubled-nothing, worth-scaled}

module _ {E : Type 0} where
  worth-set : (n : ℕ) (views : List (LogView E)) (by : ℕ) (v w : LogView E) → get_elem? views by ≡ some v → worth_of n (set views by w) + all_worth n v ≡ worth_of n views + all_worth n w
  worth-set n [] by v w e = absurd (some-ne-none v (sym e))
  worth-set n (x ∷ xs) zero v w e = let t : all_worth n x ≡ all_worth n v = ap (λ (u : LogView E). all_worth n u) (some-injective x v e) in omega arith
  worth-set n (x ∷ xs) (suc i) v w e = let r = worth-set n xs i v w e in omega arith

  worth-more : (n : ℕ) (views : List (LogView E)) (w : LogView E) → worth_of n (views ++ w ∷ []) ≡ worth_of n views + all_worth n w
  worth-more n [] w = omega arith
  worth-more n (x ∷ xs) w = let r = worth-more n xs w in omega arith

  pub worth-one : (n : ℕ) (views : List (LogView E)) (i : ℕ) (v : LogView E) → get_elem? views i ≡ some v → all_worth n v ≤ worth_of n views
  worth-one n [] i v e = absurd (some-ne-none v (sym e))
  worth-one n (x ∷ xs) zero v e = let t : all_worth n x ≡ all_worth n v = ap (λ (u : LogView E). all_worth n u) (some-injective x v e) in omega arith
  worth-one n (x ∷ xs) (suc i) v e = let r = worth-one n xs i v e in omega arith

  pub worth-two : (n : ℕ) (views : List (LogView E)) (i j : ℕ) (v w : LogView E) → i ≢ j → get_elem? views i ≡ some v → get_elem? views j ≡ some w → all_worth n v + all_worth n w ≤ worth_of n views
  worth-two n [] i j v w d e f = absurd (some-ne-none v (sym e))
  worth-two n (x ∷ xs) zero zero v w d e f = absurd (d refl)
  worth-two n (x ∷ xs) zero (suc j) v w d e f =
      let t : all_worth n x ≡ all_worth n v = ap (λ (u : LogView E). all_worth n u) (some-injective x v e) in let r = worth-one n xs j w f in omega arith
  worth-two n (x ∷ xs) (suc i) zero v w d e f =
      let t : all_worth n x ≡ all_worth n w = ap (λ (u : LogView E). all_worth n u) (some-injective x w f) in let r = worth-one n xs i v e in omega arith
  worth-two n (x ∷ xs) (suc i) (suc j) v w d e f = let r = worth-two n xs i j v w (λ s. d (ap suc s)) e f in omega arith

  pub halved-at : (n : ℕ) (views : List (LogView E)) (i : ℕ) (v : LogView E) → AreHalvedUpTo n views → get_elem? views i ≡ some v → IsHalvedUpTo n v
  halved-at n [] i v h e = absurd (some-ne-none v (sym e))
  halved-at n (x ∷ xs) zero v h e = subst (λ (u : LogView E). IsHalvedUpTo n u) (some-injective x v e) h.0
  halved-at n (x ∷ xs) (suc i) v h e = halved-at n xs i v h.1 e

  halved-set : (n : ℕ) (views : List (LogView E)) (i : ℕ) (w : LogView E) → AreHalvedUpTo n views → IsHalvedUpTo n w → AreHalvedUpTo n (set views i w)
  halved-set n [] i w h new = tt
  halved-set n (x ∷ xs) zero w h new = (new, h.1)
  halved-set n (x ∷ xs) (suc i) w h new = (h.0, halved-set n xs i w h.1 new)

  halved-more : (n : ℕ) (views : List (LogView E)) (w : LogView E) → AreHalvedUpTo n views → IsHalvedUpTo n w → AreHalvedUpTo n (views ++ w ∷ [])
  halved-more n [] w h new = (new, tt)
  halved-more n (x ∷ xs) w h new = (h.0, halved-more n xs w h.1 new)

  halved-scaled : (m n : ℕ) (views : List (LogView E)) → n ≤ m → AreHalvedUpTo n views → AreHalvedUpTo m views
  halved-scaled m n [] le h = tt
  halved-scaled m n (x ∷ xs) le h = let a = h.0.0 in let b = h.0.1 in ((omega arith, omega arith), halved-scaled m n xs le h.1)

  worth-of-scaled : (m k n : ℕ) (views : List (LogView E)) → m ≡ k + n → AreHalvedUpTo n views → worth_of m views ≡ doubled k (worth_of n views)
  worth-of-scaled m k n [] e h = sym (doubled-nothing k)
  worth-of-scaled m k n (x ∷ xs) e h =
      let a = worth-scaled m k n x.others_share h.0.0 e in
      let b = worth-scaled m k n x.share h.0.1 e in
      let r = worth-of-scaled m k n xs e h.1 in
      let s = doubled-sum k (all_worth n x) (worth_of n xs) in
      let t = doubled-sum k (worth n x.others_share) (worth n x.share) in
      omega arith

  -- smaller parts are as good
  pub shared-scaled : (m k n : ℕ) (views : List (LogView E)) → m ≡ k + n → AreShared n views → AreShared m views
  shared-scaled m k n views e h =
      let w = worth-of-scaled m k n views e h.halved in
      let most = doubled-most k (worth_of n views) (doubled n 1) h.most in
      let all = doubled-twice k n m 1 e in
      record { halved = halved-scaled m n views (omega arith) h.halved; most = omega arith }

  -- a view takes the place of one, and is worth no more
  pub shared-set : (n : ℕ) (views : List (LogView E)) (by : ℕ) (v w : LogView E) → AreShared n views → get_elem? views by ≡ some v → IsHalvedUpTo n w → all_worth n w ≤ all_worth n v → AreShared n (set views by w)
  shared-set n views by v w h at halved le =
      let t = worth-set n views by v w at in
      let most = h.most in
      record { halved = halved-set n views by w h.halved halved; most = omega arith }

  -- a view is cut in two
  pub shared-split : (n : ℕ) (views : List (LogView E)) (by : ℕ) (v left right : LogView E) → AreShared n views → get_elem? views by ≡ some v → IsHalvedUpTo n left → IsHalvedUpTo n right → all_worth n left + all_worth n right ≤ all_worth n v → AreShared n (set views by left ++ right ∷ [])
  shared-split n views by v left right h at l r le =
      let t = worth-set n views by v left at in
      let u = worth-more n (set views by left) right in
      let most = h.most in
      record { halved = halved-more n (set views by left) right (halved-set n views by left h.halved l) r; most = omega arith }

  -- a view takes in another
  pub shared-join : (n : ℕ) (views : List (LogView E)) (by other : ℕ) (v w both spent : LogView E) → AreShared n views → get_elem? views by ≡ some v → get_elem? (set views by both) other ≡ some w → IsHalvedUpTo n both → IsHalvedUpTo n spent → all_worth n both + all_worth n spent ≤ all_worth n v + all_worth n w → AreShared n (set (set views by both) other spent)
  shared-join n views by other v w both spent h at there b s le =
      let t = worth-set n views by v both at in
      let u = worth-set n (set views by both) other w spent there in
      let most = h.most in
      record { halved = halved-set n (set views by both) other spent (halved-set n views by both h.halved b) s; most = omega arith }
