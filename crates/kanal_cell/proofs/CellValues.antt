-- What slot 0 holds: the value at home comes first, then each that an end is lent, the last one taken first. A step only drops values from the front.
use Rattle.kanal_cell.proofs.Common.{◌≡◌, ℕ, zero, suc, ◌≤◌, List, [], ◌∷◌, ◌++◌, length, refl, sym, ap, ◌∙◌, append_assoc, arith, slice_set, length-append, some, none, some-injective, some-ne-none, get_elem?, Act, keeps, takes, gives, chain, Valid, homes_after, carried_after, rest}
use mathlib.Core.Option as maybe

module _ {S : Type 0} where
  abbrev of_slot : ℕ → S → List S → List S
  of_slot zero v values = v ∷ values
  of_slot (suc k) v values = values

  abbrev pub lent_values : List (ℕ × S) → List S
  lent_values [] = []
  lent_values (x ∷ lent) = of_slot x.0 x.1 (lent_values lent)

  abbrev before_lent : maybe.Option S → List S → List S
  before_lent none values = values
  before_lent (some v) values = v ∷ values

  abbrev pub values_of : List (maybe.Option S) → List S → List S
  values_of [] values = values
  values_of (h ∷ homes) values = before_lent h values

  -- the second list is an end of the first
  abbrev EndsIn : List S → List S → Type 0
  EndsIn xs ys = (lost : List S) × (xs ≡ lost ++ ys)

  takes_keep : (k : ℕ) (v : S) (c : List S) (homes : List (maybe.Option S)) → get_elem? homes k ≡ some (some v) → EndsIn (values_of homes c) (values_of (slice_set homes k none) (of_slot k v c))
  takes_keep k v c [] e = absurd (some-ne-none (some v) (sym e))
  takes_keep zero v c (h ∷ homes) e = ([], ap (λ (g : maybe.Option S). before_lent g c) (some-injective h (some v) e))
  takes_keep (suc k) v c (h ∷ homes) e = ([], refl)

  gives_drop : (k : ℕ) (v : S) (c : List S) (homes : List (maybe.Option S)) → EndsIn (values_of homes (of_slot k v c)) (values_of (slice_set homes k (some v)) c)
  gives_drop zero v c [] = (v ∷ [], refl)
  gives_drop zero v c (none ∷ homes) = ([], refl)
  gives_drop zero v c (some u ∷ homes) = (u ∷ [], refl)
  gives_drop (suc k) v c [] = ([], refl)
  gives_drop (suc k) v c (h ∷ homes) = ([], refl)

  pub ends_in : (homes : List (maybe.Option S)) (c : List (ℕ × S)) (a : Act S) → Valid homes c a → EndsIn (values_of homes (lent_values c)) (values_of (homes_after homes c a) (lent_values (carried_after c a)))
  ends_in homes c keeps valid = ([], refl)
  ends_in homes c (takes k y) valid = takes_keep k y (lent_values c) homes valid
  ends_in homes [] gives valid = ([], refl)
  ends_in homes (x ∷ c) gives valid = gives_drop x.0 x.1 (lent_values c) homes
  ends_in homes c (chain a b) valid =
      let one = ends_in homes c a valid.0 in
      let two = ends_in (homes_after homes c a) (carried_after c a) b valid.1 in
      (one.0 ++ two.0, one.1 ∙ ap (λ (xs : List S). one.0 ++ xs) two.1 ∙ sym (append_assoc one.0 two.0 _))

  -- what the slot at home adds
  pub at_home : (homes : List (maybe.Option S)) (h : maybe.Option S) (values : List S) → get_elem? homes 0 ≡ some h → values_of homes values ≡ before_lent h values
  at_home [] h values e = absurd (some-ne-none h (sym e))
  at_home (g ∷ homes) h values e = ap (λ (f : maybe.Option S). before_lent f values) (some-injective g h e)

  -- where no value was dropped, the first is the first
  pub first_same : (x y : S) (xs ys lost : List S) → x ∷ xs ≡ lost ++ y ∷ ys → length xs ≤ length ys → x ≡ y
  first_same x y xs ys [] e short = some-injective x y (ap (λ (l : List S). get_elem? l 0) e)
  first_same x y xs ys (z ∷ lost) e short =
      let long : length (x ∷ xs) ≡ length (z ∷ lost ++ y ∷ ys) = ap length e in
      let parts = length-append lost (y ∷ ys) in
      absurd (omega (arith, long, parts, short))

  -- what goes home of what was lent is the value that was taken last, and that was the slot's
  pub first_given : (x : S) (c : List (ℕ × S)) → EndsIn (lent_values c) (x ∷ lent_values (rest c)) → c ≡ (0, x) ∷ rest c
  first_given x [] e =
      let long : 0 ≡ length (e.0 ++ x ∷ []) = ap length e.1 in
      let parts = length-append e.0 (x ∷ []) in
      absurd (omega (arith, long, parts))
  first_given x (y ∷ c) e = go y.0 y.1 e
    where
      go : (k : ℕ) (v : S) → EndsIn (of_slot k v (lent_values c)) (x ∷ lent_values c) → ◌≡◌ {A = List (ℕ × S)} ((k, v) ∷ c) ((0, x) ∷ c)
      go zero v f = ap (λ (z : S). (0, z) ∷ c) (first_same v x (lent_values c) (lent_values c) f.0 f.1 (omega arith))
      go (suc k) v f =
          let long : length (lent_values c) ≡ length (f.0 ++ x ∷ lent_values c) = ap length f.1 in
          let parts = length-append f.0 (x ∷ lent_values c) in
          absurd (omega (arith, long, parts))
