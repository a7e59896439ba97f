-- Answers in their places, where one place is filled, or one more is added.
use Rattle.std.proofs.Common.{◌≡◌, ◌<◌, ◌++◌, ℕ, zero, suc, length, false, List, [], ◌∷◌, Option, Some, None, is_some, map, set, take, slice_get, slice_index_or, refl}
use Rattle.std.proofs.Common.{arith}
use Rattle.std.proofs.lemmas.Grind.{common_steps}
use Rattle.kanal_pool.specs.Answers.{answers, AreInPlace}

-- an empty place for one more job
pub one_more_place : {J A : Type 0} (value : J → A) (jobs : List J) (places : List (Option A)) (number : ℕ) → number < length jobs → AreInPlace value (take number jobs) places → AreInPlace value (take (suc number) jobs) (places ++ None ∷ [])
one_more_place value [] places number within kept = absurd (grind arith)
one_more_place value (job ∷ jobs) [] zero within kept = kept
one_more_place value (job ∷ jobs) (place ∷ places) zero within kept = absurd kept
one_more_place value (job ∷ jobs) [] (suc number) within kept = absurd kept
one_more_place value (job ∷ jobs) (None ∷ places) (suc number) within kept = one_more_place value jobs places number (grind arith) kept
one_more_place value (job ∷ jobs) (Some answer ∷ places) (suc number) within kept = (kept.0, one_more_place value jobs places number (grind arith) kept.1)

-- the answer is the value of the job that was looked up
pub own_value : {J A : Type 0} (value : J → A) (first job : J) (answer : A) → Some first ≡ Some job → answer ≡ value job → answer ≡ value first
own_value value first job answer own is = grind (arith, common_steps)

-- a place that is filled with its job's value
pub filled_place : {J A : Type 0} (value : J → A) (jobs : List J) (places : List (Option A)) (number : ℕ) (job : J) (answer : A) → AreInPlace value jobs places → slice_get jobs number ≡ Some job → answer ≡ value job → AreInPlace value jobs (set places number (Some answer))
filled_place value [] [] number job answer kept own is = kept
filled_place value (first ∷ jobs) (None ∷ places) zero job answer kept own is = (own_value value first job answer own is, kept)
filled_place value (first ∷ jobs) (None ∷ places) (suc number) job answer kept own is = filled_place value jobs places number job answer kept own is
filled_place value (first ∷ jobs) (Some other ∷ places) zero job answer kept own is = (own_value value first job answer own is, kept.1)
filled_place value (first ∷ jobs) (Some other ∷ places) (suc number) job answer kept own is = (kept.0, filled_place value jobs places number job answer kept.1 own is)
filled_place value [] (place ∷ places) number job answer kept own is = absurd kept
filled_place value (first ∷ jobs) [] number job answer kept own is = absurd kept

-- all places filled: what is in them are the answers
pub all_filled : {J A : Type 0} (value : J → A) (jobs : List J) (found : List A) → AreInPlace value jobs (map Some found) → found ≡ answers value jobs
all_filled value [] [] kept = refl
all_filled value (job ∷ jobs) (answer ∷ found) kept = rw kept.0 (rw (all_filled value jobs found kept.1) refl)
all_filled value [] (answer ∷ found) kept = absurd kept
all_filled value (job ∷ jobs) [] kept = absurd kept

-- a place that was looked at and held nothing
pub empty_place : {A : Type 0} (places : List (Option A)) (number : ℕ) (found : Option A) → number < length places → found ≡ slice_index_or places number found → is_some found ≡ false → slice_get places number ≡ Some None
empty_place [] number found within at nothing = absurd (grind arith)
empty_place (None ∷ places) zero found within at nothing = refl
empty_place (Some answer ∷ places) zero found within at nothing = absurd (grind (arith, common_steps))
empty_place (place ∷ places) (suc number) found within at nothing = empty_place places number found (grind arith) at nothing
