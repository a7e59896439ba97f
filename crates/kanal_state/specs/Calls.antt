-- A call, and what its event tells on a line.
use Rattle.std.specs.Prelude.{◌≡◌, ℕ, ◌⊎◌, List, [], ◌∷◌}
use Rattle.kanal_core.specs.declared.internal.outcome.Outcome.{Outcome}
use Rattle.kanal_core.specs.Line.{Line}
use Rattle.kanal_events.specs.declared.event.Event.{Event}
use Rattle.kanal_events.specs.declared.event.Event.TheVariants.{Withdraw, CloneTx, CloneRx, DropTx, DropRx, Seal, Ask as Asks, Terminated}
use Rattle.kanal_events.specs.Steps.{StepSpec, step}
use Rattle.kanal_state.specs.declared.call.Call.{Call}

module _ {T : Type 0} where
  -- the call of this event, of which this was told
  abbrev pub call_of : Event T → StepSpec T → Call T
  call_of event told = record { event = event; reply = told.reply; settled = told.settled; drained = told.drained; cleared = told.cleared }

  -- on this line the call was told what the line's step tells
  abbrev pub IsToldOn : Line T → Call T → Type 0
  IsToldOn l c = c ≡ call_of c.event (step l c.event)

  -- some line tells of the call what was told of it: what is known of a call whatever is kept
  abbrev pub IsTold : Call T → Type 0
  IsTold call = (line : Line T) × IsToldOn line call

  -- a call of this event puts no message, asks for none and clears none, whatever it is answered
  abbrev pub MovesNoMessage : Event T → Type 0
  MovesNoMessage (Withdraw ticket) = Unit {0}
  MovesNoMessage CloneTx = Unit {0}
  MovesNoMessage CloneRx = Unit {0}
  MovesNoMessage DropTx = Unit {0}
  MovesNoMessage DropRx = Unit {0}
  MovesNoMessage Seal = Unit {0}
  MovesNoMessage (Asks side ask) = Unit {0}
  MovesNoMessage Terminated = Unit {0}
  MovesNoMessage event = ⊥

  -- the event is the drop of a handle
  abbrev pub IsDrop : Event T → Type 0
  IsDrop DropTx = Unit {0}
  IsDrop DropRx = Unit {0}
  IsDrop event = ⊥

  -- the line after the call
  abbrev pub line_by : Call T → Line T → Line T
  line_by c l = (step l c.event).line

  -- the pair is in the list
  abbrev pub IsIn : ℕ × Outcome T → List (ℕ × Outcome T) → Type 0
  IsIn pair [] = ⊥
  IsIn pair (x ∷ xs) = (pair ≡ x) ⊎ IsIn pair xs
