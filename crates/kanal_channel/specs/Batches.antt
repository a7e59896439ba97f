-- What several calls do to a pass, one after the other.
use Rattle.std.specs.Prelude.{◌≡◌, List, ◌++◌, Option, Ok}
use Rattle.std.specs.Option.{option_to_list}
use Rattle.std.specs.List.{FoldsTo}
use Rattle.kanal_state.specs.Handles.{Receives, Sends}
use Rattle.kanal_state.specs.HistoryRelations.{HistoryRelations}

module _ {T P : Type 0} (w : HistoryRelations T P) where
  -- the messages were sent, one after the other
  abbrev pub SendsThese : P → List T → P → Type 0
  SendsThese = FoldsTo (λ old message new. Sends w old new message (Ok tt))

  -- messages were sent from the front of a list; then one of them comes back, or none does, and the rest is left
  abbrev pub SendsFront : P → P → List T → Option T → List T → Type 0
  SendsFront old new front back rest = (sent : List T) × SendsThese old sent new × (front ≡ sent ++ option_to_list back ++ rest)

  -- the messages were received, one after the other
  abbrev pub ReceivesThese : P → List T → P → Type 0
  ReceivesThese = FoldsTo (λ old message new. Receives w old new (Ok message))
