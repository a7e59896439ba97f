-- Who leaves the list of those that wait at a step, and who stays there.
use Rattle.std.specs.Prelude.{◌≡◌, List, [], ◌∷◌, ◌++◌, Option, None, Some, Result, Ok, Err}
use Rattle.kanal_core.specs.declared.internal.outcome.Settled.{Settled}
use Rattle.kanal_core.specs.declared.internal.outcome.Waiter.{Waiter}
use Rattle.kanal_core.specs.Channel.{ChannelView, line_of}
use Rattle.kanal_events.specs.declared.event.Event.{Event}
use Rattle.kanal_events.specs.declared.step_result.Leaving.{Leaving}
use Rattle.kanal_events.specs.declared.step_result.Leaving.TheVariants.{One, All, Shut, Drained}
use Rattle.kanal_events.specs.declared.step_result.FastResult.{FastResult}
use Rattle.kanal_events.specs.declared.step_result.StepResult.{StepResult}
use Rattle.kanal_events.specs.declared.step_result.Placement.{Placement}
use Rattle.kanal_events.specs.declared.step_result.Placement.TheVariants.{Ticket as Waiting, Back}
use Rattle.kanal_events.specs.Given.{GivesNone}
use Rattle.kanal_events.specs.StepResult.{made_of, told_of}
use Rattle.kanal_events.specs.Steps.{Tells, message_of}

module _ {T W : Type 0} where
  -- at most one who was settled, as a list
  abbrev pub at_most_one : Option (Settled T W) → List (Settled T W)
  at_most_one None = []
  at_most_one (Some s) = s ∷ []

  -- those whose waits were settled, with what they brought, of what left the core
  abbrev pub gone_of_left : Leaving T W → List (Settled T W)
  gone_of_left (One reply settled) = at_most_one settled
  gone_of_left (All reply ended) = ended
  gone_of_left (Shut closing) = closing.ended
  gone_of_left (Drained count ended moved) = ended

  -- those whose waits a step settled, with what they brought
  abbrev pub gone_of : StepResult T W → List (Settled T W)
  gone_of made = gone_of_left made.leaving

  -- these were the oldest that waited, each with its ticket and what it brought; the others stay as they were
  abbrev pub Leave : List (Waiter T W) → List (Settled T W) → List (Waiter T W) → Type 0
  Leave old [] new = new ≡ old
  Leave [] (s ∷ gone) new = ⊥
  Leave (x ∷ old) (s ∷ gone) new = (s.ticket ≡ x.ticket) × (s.w ≡ x.w) × Leave old gone new

  -- the same of a call that waits where it must; where it must nobody left
  abbrev pub LeaveTried : List (Waiter T W) → Result (FastResult T W) (Event T) → List (Waiter T W) → Type 0
  LeaveTried old (Ok answered) new = Leave old (gone_of (made_of answered)) new
  LeaveTried old (Err back) new = new ≡ old

  -- behind those that waited stands the call, with its message and what it brought; or nobody came, and that is back
  abbrev pub WaitPost : List (Waiter T W) → Event T → W → Placement W → List (Waiter T W) → Type 0
  WaitPost old event w (Waiting ticket) new = new ≡ old ++ record { ticket = ticket; message = message_of event; w = w } ∷ []
  WaitPost old event w (Back back) new = (back ≡ w) × (new ≡ old)

  -- the whole of a step that starts no wait: what the event told, that no ticket was given, and who left
  pub record IsStep (old : ChannelView T W) (event : Event T) (made : StepResult T W) (new : ChannelView T W) : Type 0 where
    pub told : Tells (line_of old) event (told_of (line_of new) made)
    pub tickets : GivesNone old new
    pub leave : Leave old.waiters (gone_of made) new.waiters
