-- A list within a limit is all below it.
use Rattle.kanal_core.proofs.Common.{◌≡◌, ℕ, zero, suc, List, [], length, Option, Some, None, refl, take_all, under, IsWithin}

pub under-within : {X : Type 0} (c : Option ℕ) (xs : List X) → IsWithin (length xs) c → under c xs ≡ xs
under-within None xs h = refl
under-within (Some c) xs h = take_all c xs h

-- nothing is below the limit in a list with nothing in it
pub under-nothing : {X : Type 0} (c : Option ℕ) → under {X = X} c [] ≡ []
under-nothing None = refl
under-nothing (Some zero) = refl
under-nothing (Some (suc k)) = refl
