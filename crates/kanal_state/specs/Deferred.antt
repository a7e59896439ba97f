-- What may be let go with nothing lost.
use Rattle.std.specs.Prelude.{◌≡◌}

module _ {A : Type 0} where
  -- there is no other value of its type
  abbrev pub IsOnlyValue : A → Type 0
  IsOnlyValue a = (other : A) → other ≡ a
