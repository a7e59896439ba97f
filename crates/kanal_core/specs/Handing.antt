-- What passes between the buffer and the list of waiters.
use Rattle.std.specs.Prelude.{◌≡◌, ◌≢◌, true, false, List, [], ◌∷◌, ◌++◌, length, Option, Some, None}
use Rattle.kanal_core.specs.declared.internal.outcome.Outcome.TheVariants.{Taken, Given}
use Rattle.kanal_core.specs.declared.internal.outcome.Settled.{Settled}
use Rattle.kanal_core.specs.declared.internal.outcome.Waiter.{Waiter}
use Rattle.kanal_core.specs.Line.{is_below}
use Rattle.kanal_core.specs.BufferViews.{BufferView}
use Rattle.kanal_core.specs.Waiters.{sender_first}

-- a limited buffer with a place left
abbrev pub HasOnePlace : {T : Type 0} → BufferView T → Type 0
HasOnePlace b = (b.limit ≢ None) × (is_below (length b.messages) b.limit ≡ true)

module _ {T W : Type 0} where
  -- the oldest receiver left with the message
  pub record HandsOver (old : List (Waiter T W)) (m : T) (s : Settled T W) (new : List (Waiter T W)) : Type 0 where
    pub first : Waiter T W
    pub was : old ≡ first ∷ new
    pub settled : s ≡ record { ticket = first.ticket; w = first.w; outcome = Given m }

  -- the oldest sender left, and this was its message
  pub record TakesSender (old : List (Waiter T W)) (m : T) (s : Settled T W) (new : List (Waiter T W)) : Type 0 where
    pub first : Waiter T W
    pub was : old ≡ first ∷ new
    pub message : first.message ≡ Some m
    pub settled : s ≡ record { ticket = first.ticket; w = first.w; outcome = Taken }

  -- the oldest sender's message went to the buffer's back, or no sender waits
  abbrev pub LetsIn : BufferView T → List (Waiter T W) → Option (Settled T W) → BufferView T → List (Waiter T W) → Type 0
  LetsIn buffer old None after new = (sender_first old ≡ false) × (after ≡ buffer) × (new ≡ old)
  LetsIn buffer old (Some s) after new = (m : T) × TakesSender old m s new × (after ≡ record buffer { messages = buffer.messages ++ m ∷ [] })
