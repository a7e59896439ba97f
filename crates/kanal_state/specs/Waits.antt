-- What the start of a wait came to.
use Rattle.std.specs.Prelude.{◌≡◌, List, [], ◌∷◌, ◌++◌}
use Rattle.kanal_core.specs.declared.internal.outcome.Waiter.{Waiter}
use Rattle.kanal_core.specs.Tickets.{number_of}
use Rattle.kanal_events.specs.declared.event.Event.{Event}
use Rattle.kanal_events.specs.declared.event.Reply.{Reply}
use Rattle.kanal_events.specs.declared.event.Reply.TheVariants.{Waits as HasToWait}
use Rattle.kanal_events.specs.Steps.{message_of}
use Rattle.kanal_state.specs.Makes.{HasReplied, IsReplied}
use Rattle.kanal_state.specs.HistoryRelations.{HistoryRelations}
use Rattle.kanal_state.specs.declared.counted.CountedWait.{CountedWait}
use Rattle.kanal_state.specs.declared.state.WaitStart.{WaitStart}
use Rattle.kanal_state.specs.declared.state.WaitStart.TheVariants.{Waits, Refused}
use Rattle.kanal_state.specs.Counts.{ticket_of}
use Rattle.kanal_state.specs.Renewing.{Brought}

module _ {T P : Type 0} where
  -- the pass made the call, which waits under the ticket of this token
  abbrev pub IsWaiting : HistoryRelations T P → P → P → Event T → CountedWait → Type 0
  IsWaiting w old new event counted = IsReplied w old new event (λ reply. reply) (HasToWait (number_of (ticket_of counted)))

module _ {T Hist Pass Log Prefix Internal : Type 0} where
  -- the reply: the call waits under its ticket, or it was refused
  abbrev pub start_reply : WaitStart T Hist Pass Log Prefix Internal → Reply T
  start_reply (Waits counted) = HasToWait (number_of (ticket_of counted))
  start_reply (Refused reply waiter) = reply

  -- the pass made the call, which waits; or it was refused, or there was no memory for it
  abbrev pub HasStarted : HistoryRelations T Pass → Pass → Pass → Event T → WaitStart T Hist Pass Log Prefix Internal → Type 0
  HasStarted w old new event (Waits counted) = IsWaiting w old new event counted
  HasStarted w old new event (Refused reply waiter) = HasReplied w old new event reply

  -- behind those that waited stands the call, with its message and its handle; or nobody came, and the waiter's handle is back
  abbrev pub Joins : List (Waiter T Brought) → Event T → Brought → WaitStart T Hist Pass Log Prefix Internal → List (Waiter T Brought) → Type 0
  Joins old event waiter (Waits counted) new = new ≡ old ++ record { ticket = ticket_of counted; message = message_of event; w = waiter } ∷ []
  Joins old event waiter (Refused reply back) new = (back ≡ waiter) × (new ≡ old)
