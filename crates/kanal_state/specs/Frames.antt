-- What a step of the state leaves as it was.
use Rattle.std.specs.Prelude.{◌≡◌}

module _ {C L W : Type 0} where
  -- who waits stays as it was, and what makes the internal calls: the line alone may have moved
  abbrev pub OnlyLineMoves : C × L × W → C × L × W → Type 0
  OnlyLineMoves old new = (new.2 ≡ old.2) × (new.0 ≡ old.0)
