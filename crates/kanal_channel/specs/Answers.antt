-- What a call came to that waits where it must.
use Rattle.kanal_core.specs.declared.internal.outcome.Outcome.{Outcome}
use Rattle.kanal_events.specs.declared.event.Event.{Event}
use Rattle.kanal_events.specs.declared.event.Reply.{Reply}
use Rattle.kanal_events.specs.Steps.{no_memory}
use Rattle.kanal_state.specs.Makes.{Finishes}
use Rattle.kanal_state.specs.HistoryRelations.{HistoryRelations}

module _ {T P O : Type 0} where
  -- the pass made a call of this event, which is answered so; of a send it is `Sends`, of a receive `Receives`
  abbrev pub Answers : HistoryRelations T P → Event T → (Reply T → O) → (Outcome T → O) → P → P → O → Type 0
  Answers w event read ended old new answer = Finishes w old new event read ended (read (no_memory event)) answer
