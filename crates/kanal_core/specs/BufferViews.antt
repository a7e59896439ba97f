-- What the core sees of its buffer.
use Rattle.std.specs.Prelude.{ℕ, List, Option}

-- the messages from front to back, and how many there may be; None is no limit
pub record BufferView (T : Type 0) : Type 0 where
  pub messages : List T
  pub limit : Option ℕ
