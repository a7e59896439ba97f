-- What a call came to that waits where it must, and how its wait is given up.
use Rattle.std.specs.Prelude.{◌≡◌, true, Option}
use Rattle.kanal_cell.specs.declared.signal.rule.CellView.{CellView}
use Rattle.kanal_events.specs.declared.event.Event.{Event}
use Rattle.kanal_state.specs.Makes.{HasReplied, HasWaited, HasWithdrawn}
use Rattle.kanal_state.specs.HistoryRelations.{HistoryRelations}
use Rattle.kanal_channel.specs.declared.blocking.WaitOutcome.{WaitOutcome}
use Rattle.kanal_channel.specs.declared.blocking.WaitOutcome.TheVariants.{Replied, Settled, Withdrawn}

-- the wait was given up at its cell
abbrev pub HasLeftCell : CellView → Type 0
HasLeftCell view = view.set.left ≡ true

module _ {T P : Type 0} where
  -- the deadline has come, as this says, and the pass took back the wait of its call, with this message
  abbrev pub TakesBack : HistoryRelations T P → Type 0 → P → P → Event T → Option T → Type 0
  TakesBack w late old new event back = late × (taken : HasWithdrawn w old new event) × (taken.back ≡ back)

  -- what a call came to that waits where it must, until a deadline
  abbrev pub BlockingPost : HistoryRelations T P → Type 0 → P → P → Event T → WaitOutcome T → Type 0
  BlockingPost w late old new event (Replied reply) = HasReplied w old new event reply
  BlockingPost w late old new event (Settled outcome) = HasWaited w old new event outcome
  BlockingPost w late old new event (Withdrawn back) = TakesBack w late old new event back
