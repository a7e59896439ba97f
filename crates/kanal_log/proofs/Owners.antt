-- Each place is of one seat at most, whatever step a seat makes.
use Rattle.kanal_log.proofs.Common.{◌≡◌, ◌≢◌, ◌⊎◌, ℕ, zero, suc, List, [], ◌∷◌, ◌++◌, length, set, refl, sym, ap, ◌∙◌, subst, ⊎_elim, inl, inr, some, some-ne-none, some-injective, get_elem?, at_set, LogView, nothing, IsAmong, AreDisjoint, HaveOneOwner, all_own, beside, reader_view}
use Rattle.kanal_log.proofs.Places.{among-cases, among-right}

module _ {A : Type 0} where
  at-end : (l : List A) (a b : A) (j : ℕ) → get_elem? (l ++ a ∷ []) j ≡ some b → (get_elem? l j ≡ some b) ⊎ ((j ≡ length l) × (a ≡ b))
  at-end [] a b zero e = inr (refl, some-injective a b e)
  at-end [] a b (suc j) e = absurd (some-ne-none b (sym e))
  at-end (x ∷ xs) a b zero e = inl e
  at-end (x ∷ xs) a b (suc j) e = ⊎_elim (λ t. inl t) (λ t. inr (ap suc t.0, t.1)) (at-end xs a b j e)

module _ {E : Type 0} (views : List (LogView E)) (own : HaveOneOwner views) (by : ℕ) (v : LogView E) (at : get_elem? views by ≡ some v) where
  has : ℕ → LogView E → Type 0
  has k u = IsAmong k (all_own u)

  -- a place that no seat has
  abbrev pub IsFree : ℕ → Type 0
  IsFree k = (j : ℕ) (u : LogView E) → get_elem? views j ≡ some u → IsAmong k (all_own u) → ⊥

  -- a seat keeps some of its places, and gets free ones
  pub owners-set : (w : LogView E) → ((k : ℕ) → IsAmong k (all_own w) → IsAmong k (all_own v) ⊎ IsFree k) → HaveOneOwner (set views by w)
  owners-set w sub i j a b ea eb k ka kb =
      ⊎_elim
      (λ (x : (i ≡ by) × (w ≡ a)).
      ⊎_elim
      (λ (y : (j ≡ by) × (w ≡ b)). x.0 ∙ sym y.0)
      (λ (y : (j ≢ by) × (get_elem? views j ≡ some b)).
      ⊎_elim (λ (old : IsAmong k (all_own v)). x.0 ∙ own by j v b at y.1 k old kb) (λ (free : IsFree k). absurd (free j b y.1 kb)) (sub k (subst (λ (u : LogView E). IsAmong k (all_own u)) (sym x.1) ka)))
      (at_set views by j w b eb))
      (λ (x : (i ≢ by) × (get_elem? views i ≡ some a)).
      ⊎_elim
      (λ (y : (j ≡ by) × (w ≡ b)).
      ⊎_elim (λ (old : IsAmong k (all_own v)). own i by a v x.1 at k ka old ∙ sym y.0) (λ (free : IsFree k). absurd (free i a x.1 ka)) (sub k (subst (λ (u : LogView E). IsAmong k (all_own u)) (sym y.1) kb)))
      (λ (y : (j ≢ by) × (get_elem? views j ≡ some b)). own i j a b x.1 y.1 k ka kb)
      (at_set views by j w b eb))
      (at_set views by i w a ea)

  module _ (left right : LogView E) (lefts : (k : ℕ) → IsAmong k (all_own left) → IsAmong k (all_own v)) (rights : (k : ℕ) → IsAmong k (all_own right) → IsAmong k (all_own v)) (apart : AreDisjoint (all_own left) (all_own right)) where
    not-both : (i : ℕ) (a : LogView E) → get_elem? (set views by left) i ≡ some a → (k : ℕ) → IsAmong k (all_own a) → IsAmong k (all_own right) → ⊥
    not-both i a e k ka kr =
        ⊎_elim
        (λ (x : (i ≡ by) × (left ≡ a)). apart k (subst (λ (u : LogView E). IsAmong k (all_own u)) (sym x.1) ka) kr)
        (λ (x : (i ≢ by) × (get_elem? views i ≡ some a)). x.0 (own i by a v x.1 at k ka (rights k kr)))
        (at_set views by i left a e)

    -- a seat's places are cut in two
    pub owners-split : HaveOneOwner (set views by left ++ right ∷ [])
    owners-split i j a b ea eb k ka kb =
        ⊎_elim
        (λ (x : get_elem? (set views by left) i ≡ some a).
        ⊎_elim
        (λ (y : get_elem? (set views by left) j ≡ some b). owners-set left (λ n m. inl (lefts n m)) i j a b x y k ka kb)
        (λ (y : (j ≡ length (set views by left)) × (right ≡ b)). absurd (not-both i a x k ka (subst (λ (u : LogView E). IsAmong k (all_own u)) (sym y.1) kb)))
        (at-end (set views by left) right b j eb))
        (λ (x : (i ≡ length (set views by left)) × (right ≡ a)).
        ⊎_elim
        (λ (y : get_elem? (set views by left) j ≡ some b). absurd (not-both j b y k kb (subst (λ (u : LogView E). IsAmong k (all_own u)) (sym x.1) ka)))
        (λ (y : (j ≡ length (set views by left)) × (right ≡ b)). x.0 ∙ sym y.0)
        (at-end (set views by left) right b j eb))
        (at-end (set views by left) right a i ea)

  module _ (other : ℕ) (w : LogView E) (there : get_elem? views other ≡ some w) where
    -- the views after the join
    abbrev joined : List (LogView E)
    joined = set (set views by (beside v w)) other (reader_view [] [] nothing)

    -- the seat that took in, or one that had no part in it
    abbrev Stands : ℕ → LogView E → Type 0
    Stands i a = ((i ≡ by) × (beside v w ≡ a)) ⊎ ((i ≢ by) × (i ≢ other) × (get_elem? views i ≡ some a))

    stands : (i : ℕ) (a : LogView E) → get_elem? joined i ≡ some a → (k : ℕ) → IsAmong k (all_own a) → Stands i a
    stands i a e k ka =
        ⊎_elim
        (λ (x : (i ≡ other) × (reader_view [] [] nothing ≡ a)). absurd (subst (λ (u : LogView E). IsAmong k (all_own u)) (sym x.1) ka))
        (λ (x : (i ≢ other) × (get_elem? (set views by (beside v w)) i ≡ some a)).
        ⊎_elim
        (λ (y : (i ≡ by) × (beside v w ≡ a)). inl y)
        (λ (y : (i ≢ by) × (get_elem? views i ≡ some a)). inr (y.0, x.0, y.1))
        (at_set views by i (beside v w) a x.1))
        (at_set (set views by (beside v w)) other i (reader_view [] [] nothing) a e)

    not-elsewhere : (k : ℕ) → IsAmong k (all_own (beside v w)) → (j : ℕ) (b : LogView E) → j ≢ by → j ≢ other → get_elem? views j ≡ some b → IsAmong k (all_own b) → ⊥
    not-elsewhere k both j b n m e kb =
        ⊎_elim
        (λ (x : IsAmong k w.own). m (sym (own other j w b there e k (among-right k w.others_own w.own x) kb)))
        (λ (x : IsAmong k v.own). n (sym (own by j v b at e k (among-right k v.others_own v.own x) kb)))
        (among-cases k w.own v.own both)

    -- a seat takes in another's places
    pub owners-join : HaveOneOwner joined
    owners-join i j a b ea eb k ka kb =
        ⊎_elim
        (λ (x : (i ≡ by) × (beside v w ≡ a)).
        ⊎_elim
        (λ (y : (j ≡ by) × (beside v w ≡ b)). x.0 ∙ sym y.0)
        (λ (y : (j ≢ by) × (j ≢ other) × (get_elem? views j ≡ some b)). absurd (not-elsewhere k (subst (λ (u : LogView E). IsAmong k (all_own u)) (sym x.1) ka) j b y.0 y.1 y.2 kb))
        (stands j b eb k kb))
        (λ (x : (i ≢ by) × (i ≢ other) × (get_elem? views i ≡ some a)).
        ⊎_elim
        (λ (y : (j ≡ by) × (beside v w ≡ b)). absurd (not-elsewhere k (subst (λ (u : LogView E). IsAmong k (all_own u)) (sym y.1) kb) i a x.0 x.1 x.2 ka))
        (λ (y : (j ≢ by) × (j ≢ other) × (get_elem? views j ≡ some b)). own i j a b x.2 y.2 k ka kb)
        (stands j b eb k kb))
        (stands i a ea k ka)
