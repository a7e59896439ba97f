-- What a call does to the pass that makes it, whatever is kept.
use Rattle.std.specs.Prelude.{◌≡◌, ℕ, ◌⊎◌, ◌+◌, ◌<◌, true, false, List, [], ◌++◌, length, Option, Result, Ok, Err, IfOk}
use Rattle.kanal_core.specs.declared.internal.outcome.Outcome.{Outcome}
use Rattle.kanal_core.specs.declared.error.ReceiveError.{ReceiveError}
use Rattle.kanal_core.specs.Line.{Line}
use Rattle.kanal_events.specs.declared.event.Event.{Event}
use Rattle.kanal_events.specs.declared.event.Event.TheVariants.{Drain, Withdraw}
use Rattle.kanal_events.specs.declared.event.Reply.{Reply}
use Rattle.kanal_events.specs.declared.event.Reply.TheVariants.{Waits, Withdrawn}
use Rattle.kanal_events.specs.Steps.{IsWait, is_no_memory, no_memory}
use Rattle.kanal_events.specs.declared.step_result.FastResult.{FastResult}
use Rattle.kanal_events.specs.declared.step_result.StepResult.{StepResult}
use Rattle.kanal_events.specs.StepResult.{MustWait, made_of, reply_of}
use Rattle.kanal_state.specs.declared.call.Call.{Call}
use Rattle.kanal_state.specs.Calls.{IsTold}
use Rattle.kanal_state.specs.Entries.{MayLack, call_from}
use Rattle.kanal_state.specs.Results.{drained_by}
use Rattle.kanal_state.specs.HistoryRelations.{HistoryRelations}

module _ {T P : Type 0} where
  -- there was no memory for the call, which is not kept: what the pass has seen now led to a line on which there may be none for it
  pub record Lacks (w : HistoryRelations T P) (old new : P) (event : Event T) : Type 0 where
    pub extends : w.extends old new
    pub line : Line T
    pub reaches : w.reaches new line
    pub may : MayLack line event

  -- the pass has seen that the call must wait
  pub record SeesWait (w : HistoryRelations T P) (pass : P) (event : Event T) : Type 0 where
    pub line : Line T
    pub reaches : w.reaches pass line
    pub must : MustWait line event

  -- the pass made a call of this event, and the answer is what its reply reads as
  pub record IsReplied {R : Type 0} (w : HistoryRelations T P) (old new : P) (event : Event T) (read : Reply T → R) (answer : R) : Type 0 where
    pub call : Call T
    pub made : w.appends old new call
    pub asked : call.event ≡ event
    pub reads : answer ≡ read call.reply
    pub told : IsTold call

  -- the pass made a call of this event, which did not have to wait, and the answer is what its reply reads as
  pub record IsAtOnce {R : Type 0} (w : HistoryRelations T P) (old new : P) (event : Event T) (read : Reply T → R) (answer : R) : Type 0 where
    pub replied : IsReplied w old new event read answer
    pub clear : IsWait replied.call.reply → ⊥

  -- the pass made a call of this event, which waited under a ticket; a call settled the ticket so, and the pass has learnt of that
  pub record HasWaited (w : HistoryRelations T P) (old new : P) (event : Event T) (outcome : Outcome T) : Type 0 where
    pub ticket : ℕ
    pub mid : P
    pub waits : IsReplied w old mid event (λ reply. reply) (Waits ticket)
    pub learns : w.extends mid new
    pub settled : w.saw_settled new (ticket, outcome)

  -- the pass made a call of this event, which waited under a ticket, and then a call by which it took that wait back
  pub record HasWithdrawn (w : HistoryRelations T P) (old new : P) (event : Event T) : Type 0 where
    pub ticket : ℕ
    pub mid : P
    pub back : Option T
    pub waits : IsReplied w old mid event (λ reply. reply) (Waits ticket)
    pub withdraws : IsReplied w mid new (Withdraw ticket) (λ reply. reply) (Withdrawn back)

  -- a call that never waits: it was made, or there was no memory for it
  abbrev pub Comes : {R : Type 0} → HistoryRelations T P → P → P → Event T → (Reply T → R) → R → R → Type 0
  Comes w old new event read refused answer =
      IsReplied w old new event read answer ⊎ (Lacks w old new event × (answer ≡ refused))

  -- a call that never waits, with its reply as the answer
  abbrev pub IsAnswered : HistoryRelations T P → P → P → Event T → Reply T → Type 0
  IsAnswered w old new event reply = Comes w old new event (λ reply. reply) (no_memory event) reply

  -- its wait was settled, and the answer is what became of it
  abbrev pub IsSettled : {R : Type 0} → HistoryRelations T P → P → P → Event T → (Outcome T → R) → R → Type 0
  IsSettled w old new event read answer = (outcome : Outcome T) × HasWaited w old new event outcome × (answer ≡ read outcome)

  -- a call that may wait: it was made at once, it waited and was settled, or there was no memory for it
  abbrev pub Finishes : {R : Type 0} → HistoryRelations T P → P → P → Event T → (Reply T → R) → (Outcome T → R) → R → R → Type 0
  Finishes w old new event read ended refused answer =
      IsAtOnce w old new event read answer
      ⊎ IsSettled w old new event ended answer
      ⊎ (Lacks w old new event × (answer ≡ refused))

  -- what a call came to that was answered at once
  abbrev pub HasReplied : HistoryRelations T P → P → P → Event T → Reply T → Type 0
  HasReplied w old new event reply = IsAnswered w old new event reply × (IsWait reply → ⊥)

  -- the pass made a drain: behind what the vector had held are the messages that were drained, and the answer is their number
  pub record HasDrained (w : HistoryRelations T P) (old new : P) (before after : List T) (answer : Result ℕ ReceiveError) : Type 0 where
    pub replied : IsReplied w old new Drain drained_by answer
    pub moved : after ≡ before ++ replied.call.drained
    pub count : IfOk answer (λ n. n ≡ length replied.call.drained)

  -- so much room, of which so much is taken, is too little for the whole line that the pass has seen
  abbrev pub HasTooLittleRoom : HistoryRelations T P → P → ℕ → ℕ → Type 0
  HasTooLittleRoom w pass taken room = (line : Line T) × w.reaches pass line × (room < taken + length line.line)

  -- the call of this event is kept; or there was no memory, and it is not
  pub record AppendPost (w : HistoryRelations T P) (old new : P) (event : Event T) (call : Call T) : Type 0 where
    pub asked : call.event ≡ event
    pub stands : is_no_memory call.reply ≡ false → w.appends old new call × IsTold call
    pub lacks : is_no_memory call.reply ≡ true → Lacks w old new event × (call.reply ≡ no_memory event) × (call.settled ≡ [])

module _ {T P W : Type 0} where
  -- the call that a step told is kept; or there was no memory, and it is not
  abbrev pub StepAppendPost : HistoryRelations T P → P → P → Event T → StepResult T W → Type 0
  StepAppendPost w old new event made = AppendPost w old new event (call_from event made)

  -- a call that waits where it must is kept if it didn't have to; one that must comes back, and the pass has seen that it must
  abbrev pub StartPost : HistoryRelations T P → P → P → Event T → Result (FastResult T W) (Event T) → Type 0
  StartPost w old new event (Ok answered) = StepAppendPost w old new event (made_of answered) × (IsWait (reply_of (made_of answered)) → ⊥)
  StartPost w old new event (Err back) = (back ≡ event) × w.extends old new × SeesWait w new event
