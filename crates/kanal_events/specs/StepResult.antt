-- What a step of the core told, as it left the core.
use Rattle.std.specs.Prelude.{◌≡◌, ℕ, Bool, true, false, List, [], ◌∷◌, length, drop, map, Option, None, Some, Result, Ok, Err}
use Rattle.kanal_core.specs.declared.internal.outcome.Outcome.{Outcome}
use Rattle.kanal_core.specs.Line.{Line}
use Rattle.kanal_core.specs.Channel.{settlement, settlements}
use Rattle.kanal_core.specs.Calls.{IsFull, IsEmpty}
use Rattle.kanal_core.specs.Tickets.{number_of}
use Rattle.kanal_events.specs.declared.event.Event.{Event}
use Rattle.kanal_events.specs.declared.event.Event.TheVariants.{Send, Recv, Drain, Withdraw}
use Rattle.kanal_events.specs.declared.event.Refusal.TheVariants.{NotWaiting}
use Rattle.kanal_events.specs.declared.event.Reply.{Reply}
use Rattle.kanal_events.specs.declared.event.Reply.TheVariants.{Cleared, Drained as HasDrained, Got, Refused, Sent, Waits, Withdrawn}
use Rattle.kanal_events.specs.Steps.{StepSpec, Tells, IsWait, only}
use Rattle.kanal_events.specs.declared.step_result.FastResult.{FastResult}
use Rattle.kanal_events.specs.declared.step_result.Leaving.{Leaving}
use Rattle.kanal_events.specs.declared.step_result.Leaving.TheVariants.{One, All, Shut, Drained}
use Rattle.kanal_events.specs.declared.step_result.StepResult.{StepResult}
use Rattle.kanal_events.specs.declared.step_result.Wakeup.{Wakeup}
use Rattle.kanal_events.specs.declared.step_result.Placement.{Placement}
use Rattle.kanal_events.specs.declared.step_result.Placement.TheVariants.{Ticket as Waiting, Back}

module _ {T : Type 0} where
  -- a send or a receive that waits where it must
  abbrev pub may_wait : Event T → Bool
  may_wait (Send m) = true
  may_wait Recv = true
  may_wait event = false

  -- a call that needs nothing but the core, and never waits
  abbrev pub is_plain : Event T → Bool
  is_plain (Send m) = false
  is_plain Recv = false
  is_plain Drain = false
  is_plain (Withdraw t) = false
  is_plain event = true

  -- the call finds that it must wait: there is no place for its message, or no message for it
  abbrev pub MustWait : Line T → Event T → Type 0
  MustWait l (Send m) = IsFull l
  MustWait l Recv = IsEmpty l
  MustWait l event = ⊥

  -- what a withdrawal tells, with the line after it
  abbrev pub withdrawn : Line T → Option T → StepSpec T
  withdrawn line back = only line (Withdrawn back)

  -- what a withdrawal tells where nobody waits with its ticket
  abbrev pub not_waiting : Line T → StepSpec T
  not_waiting line = only line (Refused NotWaiting None)

  -- what a send tells that entered and settled nobody, with the line after it
  abbrev pub entered : Line T → StepSpec T
  entered line = only line Sent

  -- what a receive tells that got this message and settled nobody, with the line after it
  abbrev pub got : T → Line T → StepSpec T
  got m line = only line (Got m)

module _ {T W : Type 0} where
  -- the reply, of what left the core
  abbrev pub reply_of_left : Leaving T W → Reply T
  reply_of_left (One reply settled) = reply
  reply_of_left (All reply ended) = reply
  reply_of_left (Shut closing) = Cleared (length closing.cleared)
  reply_of_left (Drained count ended moved) = HasDrained count

  -- the reply
  abbrev pub reply_of : StepResult T W → Reply T
  reply_of made = reply_of_left made.leaving

  -- the tickets that were settled, of what left the core
  abbrev pub settled_of_left : Leaving T W → List (ℕ × Outcome T)
  settled_of_left (One reply settled) = settlements settled
  settled_of_left (All reply ended) = map settlement ended
  settled_of_left (Shut closing) = map settlement closing.ended
  settled_of_left (Drained count ended moved) = map settlement ended

  -- the tickets that it settled
  abbrev pub settled_of : StepResult T W → List (ℕ × Outcome T)
  settled_of made = settled_of_left made.leaving

  -- the ticket of a wait that is owed, and what became of it
  abbrev pub owed_of : Wakeup T W → ℕ × Outcome T
  owed_of owed = settlement owed.settled

  -- who is owed it
  abbrev pub who_of : Wakeup T W → W
  who_of owed = owed.settled.w

  -- what is owed after a step that settled at most one wait
  abbrev pub owed_by : Option (Wakeup T W) → List (ℕ × Outcome T)
  owed_by None = []
  owed_by (Some owed) = owed_of owed ∷ []

  -- the messages that were drained, of what left the core
  abbrev pub drained_of_left : Leaving T W → List T
  drained_of_left (One reply settled) = []
  drained_of_left (All reply ended) = []
  drained_of_left (Shut closing) = []
  drained_of_left (Drained count ended moved) = drop (length moved.before.value.items) moved.after.value.items

  -- the messages that it drained: those behind what the vector had held
  abbrev pub drained_of : StepResult T W → List T
  drained_of made = drained_of_left made.leaving

  -- what left the core is that of a drain
  abbrev pub is_drained_left : Leaving T W → Bool
  is_drained_left (One reply settled) = false
  is_drained_left (All reply ended) = false
  is_drained_left (Shut closing) = false
  is_drained_left (Drained count ended moved) = true

  -- it is a drain that was made
  abbrev pub is_drained : StepResult T W → Bool
  is_drained made = is_drained_left made.leaving

  -- the messages that were cleared, of what left the core
  abbrev pub cleared_of_left : Leaving T W → List T
  cleared_of_left (One reply settled) = []
  cleared_of_left (All reply ended) = []
  cleared_of_left (Shut closing) = closing.cleared
  cleared_of_left (Drained count ended moved) = []

  -- the messages that it cleared
  abbrev pub cleared_of : StepResult T W → List T
  cleared_of made = cleared_of_left made.leaving

  -- all that it tells, with the line after it
  abbrev pub told_of : Line T → StepResult T W → StepSpec T
  told_of line made =
      record { line = line; reply = reply_of made; settled = settled_of made; drained = drained_of made; cleared = cleared_of made }

  -- what a send or a receive told that was answered at once, as what any step told
  abbrev pub made_of : FastResult T W → StepResult T W
  made_of answered = record { leaving = One answered.reply answered.settled }

  -- the event was made, and doesn't wait; or it must wait, comes back, and nothing changed
  abbrev pub Tries : Line T → Event T → Result (FastResult T W) (Event T) → Line T → Type 0
  Tries old event (Ok answered) new =
      Tells old event (told_of new (made_of answered)) × (IsWait (reply_of (made_of answered)) → ⊥)
  Tries old event (Err back) new = (back ≡ event) × (new ≡ old) × MustWait old event

module _ {T W : Type 0} where
  -- the call waits under this ticket; or it doesn't wait
  abbrev pub Keeps : Reply T → Placement W → Type 0
  Keeps reply (Waiting ticket) = reply ≡ Waits (number_of ticket)
  Keeps reply (Back w) = IsWait reply → ⊥
