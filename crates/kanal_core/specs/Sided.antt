-- One side waits at most, under rising numbers.
use Rattle.std.specs.Prelude.{◌≡◌, ℕ, ◌+◌, ◌≤◌, ◌⊎◌, List, [], ◌∷◌, length, Option, Some, None}
use Rattle.kanal_core.specs.declared.internal.outcome.Waiter.{Waiter}

module _ {T W : Type 0} where
  -- all of them bring a message
  abbrev pub AllSend : List (Waiter T W) → Type 0
  AllSend [] = Unit {0}
  AllSend (w ∷ ws) = (m : T) × (w.message ≡ Some m) × AllSend ws

  -- none of them brings a message
  abbrev pub AllReceive : List (Waiter T W) → Type 0
  AllReceive [] = Unit {0}
  AllReceive (w ∷ ws) = (w.message ≡ None) × AllReceive ws

  -- their numbers rise, from `low` on and below `next`
  abbrev pub Rises : ℕ → List (Waiter T W) → ℕ → Type 0
  Rises low [] next = low ≤ next
  Rises low (w ∷ ws) next = (low ≤ w.ticket.number) × Rises (w.ticket.number + 1) ws next

  -- nobody waits, or senders do and the buffer is full, or receivers do and the buffer is empty
  abbrev pub IsOneSided : List T → Option ℕ → List (Waiter T W) → Type 0
  IsOneSided buffer capacity waiters = (waiters ≡ []) ⊎ ((AllSend waiters × (capacity ≡ Some (length buffer))) ⊎ (AllReceive waiters × (buffer ≡ [])))
