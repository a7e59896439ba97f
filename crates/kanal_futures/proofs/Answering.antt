-- What a stream received, and what holds where a wait was started.
use Rattle.std.proofs.Common.{◌≡◌, Option, Some, None, Result, Ok, Err, IfOk}
use Rattle.std.specs.Option.{IfSome, IsSome}
use Rattle.kanal_state.specs.Handles.{Receives}
use Rattle.kanal_state.specs.HistoryRelations.{HistoryRelations}
use Rattle.kanal_futures.specs.Streams.{HasReceived}

module _ {T P : Type 0} (w : HistoryRelations T P) (old new : P) where
  -- a message that a stream took is one that its pass received
  pub received_on : (before after : Option P) (taken : Option T) → before ≡ Some old → after ≡ Some new → IfSome taken (λ m. Receives w old new (Ok m)) → IfSome taken (λ m. HasReceived w before after (Ok m))
  received_on before after None from to received = tt
  received_on before after (Some m) from to received = record { old = old; new = new; from = from; to = to; receives = received }

-- what holds of a cell that was made holds where a wait was started with it
pub with_cell : {A E X : Type 0} (C : Type 0) (begun : Result A E) (cell : Option X) → IfOk begun (λ _. IsSome cell) → IfSome cell (λ _. C) → IfOk begun (λ _. C)
with_cell C (Err e) cell some held = tt
with_cell C (Ok b) (Some x) some held = held
with_cell C (Ok b) None some held = absurd (cc)
