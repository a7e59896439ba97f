-- What a receive that was answered tells of an iterator's item.
use Rattle.std.proofs.Common.{◌≡◌, Option, Result, Ok, Err, sym, subst}
use Rattle.std.specs.Result.{result_ok}
use Rattle.kanal_core.specs.declared.error.ReceiveError.{ReceiveError}
use Rattle.kanal_state.specs.Handles.{Receives}
use Rattle.kanal_state.specs.HistoryRelations.{HistoryRelations}
use Rattle.kanal.specs.Messages.{ReceivesNext}

module _ {T P : Type 0} (w : HistoryRelations T P) (old new : P) where
  pub received_next : (answer : Result T ReceiveError) (item : Option T) → Receives w old new answer → item ≡ result_ok answer → ReceivesNext w old new item
  received_next (Ok message) item received is = subst (ReceivesNext w old new) (sym is) received
  received_next (Err error) item received is = subst (ReceivesNext w old new) (sym is) (error, received)
