-- What a pool answers, said of the jobs alone.
use Rattle.std.specs.Prelude.{◌≡◌, ℕ, List, [], ◌∷◌, Option, Some, None, map, set, slice_get}

-- each job's value, in the jobs' order
abbrev pub answers : {J A : Type 0} → (J → A) → List J → List A
answers value jobs = map value jobs

-- each place is one job's: it is empty, or has that job's value
abbrev pub AreInPlace : {J A : Type 0} → (J → A) → List J → List (Option A) → Type 0
AreInPlace value [] [] = Unit {0}
AreInPlace value (job ∷ jobs) (None ∷ places) = AreInPlace value jobs places
AreInPlace value (job ∷ jobs) (Some answer ∷ places) = (answer ≡ value job) × AreInPlace value jobs places
AreInPlace value [] (place ∷ places) = ⊥
AreInPlace value (job ∷ jobs) [] = ⊥

-- the place with this number was empty and has the answer now; the others are as they were
abbrev pub FillsEmpty : {A : Type 0} → List (Option A) → ℕ → A → List (Option A) → Type 0
FillsEmpty old number answer new = (slice_get old number ≡ Some None) × (new ≡ set old number (Some answer))
