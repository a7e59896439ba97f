-- What is read from the entries of a history that stand at some places.
use Rattle.std.specs.Prelude.{ℕ, ◌==◌, ◌||◌, Bool, false, cond, List, [], ◌∷◌, ◌++◌, suc}

-- the place is among these
abbrev pub is_among : ℕ → List ℕ → Bool
is_among k [] = false
is_among k (x ∷ xs) = (k == x) || is_among k xs

-- what f reads from each entry that stands at one of the places, in order; the first entry has the place n
abbrev pub read_at : {E X : Type 0} → (E → List X) → List ℕ → ℕ → List E → List X
read_at f own n [] = []
read_at f own n (e ∷ es) = cond (is_among n own) (f e) [] ++ read_at f own (suc n) es
