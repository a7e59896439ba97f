-- Which call a step made, before it is kept.
use Rattle.std.specs.Prelude.{ℕ, [], Option, ◌⊎◌}
use Rattle.kanal_core.specs.Line.{Line}
use Rattle.kanal_events.specs.declared.event.Event.{Event}
use Rattle.kanal_events.specs.declared.event.Event.TheVariants.{Withdraw}
use Rattle.kanal_events.specs.declared.event.Reply.TheVariants.{Withdrawn}
use Rattle.kanal_events.specs.declared.event.Reply.{Reply}
use Rattle.kanal_events.specs.declared.step_result.StepResult.{StepResult}
use Rattle.kanal_events.specs.Steps.{MayRefuse, StepSpec}
use Rattle.kanal_events.specs.StepResult.{MustWait, cleared_of, drained_of, reply_of, settled_of}
use Rattle.kanal_state.specs.declared.call.Call.{Call}

module _ {T : Type 0} where
  -- the call that took the wait with this ticket back
  abbrev pub withdrawal : ℕ → Option T → Call T
  withdrawal ticket back = record { event = Withdraw ticket; reply = Withdrawn back; settled = []; drained = []; cleared = [] }

  -- there may be no memory for the call: a line may be refused so, or the call finds that it must wait
  abbrev pub MayLack : Line T → Event T → Type 0
  MayLack l event = MayRefuse l event ⊎ MustWait l event

  -- the call of this event that was replied so, and settled nobody
  abbrev pub replied : Event T → Reply T → Call T
  replied event reply = record { event = event; reply = reply; settled = []; drained = []; cleared = [] }

  -- all that a call tells, with the line after it
  abbrev pub told_by : Line T → Call T → StepSpec T
  told_by line call = record { line = line; reply = call.reply; settled = call.settled; drained = call.drained; cleared = call.cleared }

module _ {T W : Type 0} where
  -- the call of this event, of which a step told this
  abbrev pub call_from : Event T → StepResult T W → Call T
  call_from event made =
      record { event = event; reply = reply_of made; settled = settled_of made; drained = drained_of made; cleared = cleared_of made }
