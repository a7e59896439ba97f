-- What each call of a handle does to the pass that makes it, one word a call.
use Rattle.std.specs.Prelude.{◌≡◌, ℕ, ◌⊎◌, false, Bool, List, Option, None, Result, Ok, Err}
use Rattle.kanal_core.specs.declared.error.CloseError.{CloseError}
use Rattle.kanal_core.specs.declared.error.TooMany.{TooMany as NoMore}
use Rattle.kanal_core.specs.declared.error.ReceiveError.{ReceiveError}
use Rattle.kanal_core.specs.declared.error.ReceiveError.TheVariants.{NoMemory as ReceiveNoMemory}
use Rattle.kanal_core.specs.declared.error.ReceiveErrorTimeout.{ReceiveErrorTimeout}
use Rattle.kanal_core.specs.declared.error.ReceiveErrorTimeout.TheVariants.{DeadlineOutOfRange as ReceiveOutOfRange}
use Rattle.kanal_core.specs.declared.error.SendError.{SendError}
use Rattle.kanal_core.specs.declared.error.SendError.TheVariants.{NoMemory as SendNoMemory}
use Rattle.kanal_core.specs.declared.error.SendErrorTimeout.{SendErrorTimeout}
use Rattle.kanal_core.specs.declared.error.SendErrorTimeout.TheVariants.{DeadlineOutOfRange as SendOutOfRange}
use Rattle.kanal_events.specs.declared.event.Ask.{Ask}
use Rattle.kanal_events.specs.declared.event.Event.TheVariants.{Send, TrySend, Recv, TryRecv, Drain, Seal, Close, Ask as AskOf, Terminated}
use Rattle.kanal_events.specs.declared.event.Reply.{Reply}
use Rattle.kanal_events.specs.declared.event.Side.{Side}
use Rattle.kanal_state.specs.Counts.{one_more}
use Rattle.kanal_state.specs.Makes.{Comes, Finishes, HasDrained, IsReplied, Lacks}
use Rattle.kanal_state.specs.Results.{asked_by, closed_by, counted_by, entered_by, flag_by, receive_in_time, received_after, received_by, send_in_time, sent_after, sent_by}
use Rattle.kanal_state.specs.Timed.{FinishesBy, MeasuresFrom, ReceivesLate}
use Rattle.kanal_state.specs.HistoryRelations.{HistoryRelations}

module _ {T P : Type 0} (w : HistoryRelations T P) (old new : P) where
  -- a send that waits where it must: it was made at once, it waited and was settled, or there was no memory for it
  abbrev pub Sends : T → Result (Unit {0}) SendError → Type 0
  Sends message answer = Finishes w old new (Send message) sent_by sent_after (Err SendNoMemory) answer

  -- a send that doesn't wait: it was made, or there was no memory for it
  abbrev pub TriesToSend : T → Result Bool SendError → Type 0
  TriesToSend message answer = Comes w old new (TrySend message) entered_by (Err SendNoMemory) answer

  -- a send that doesn't wait, nor for the lock: where another holds the lock no call is made
  abbrev pub TriesToSendNow : T → Result Bool SendError → Type 0
  TriesToSendNow message answer = TriesToSend message answer ⊎ ((new ≡ old) × (answer ≡ Ok false))

  -- a send for this duration, by a clock that answered such moments
  abbrev pub SendsInTime : (ℕ → Type 0) → ℕ → T → Result (Unit {0}) SendErrorTimeout → Type 0
  SendsInTime answered duration message answer =
      MeasuresFrom answered duration (λ deadline. FinishesBy w answered deadline old new (Send message) send_in_time answer) old new (Err SendOutOfRange) answer

  -- a receive that waits where it must: it was made at once, it waited and was settled, or there was no memory for it
  abbrev pub Receives : Result T ReceiveError → Type 0
  Receives answer = Finishes w old new Recv received_by received_after (Err ReceiveNoMemory) answer

  -- a receive that doesn't wait
  abbrev pub TriesToReceive : Result (Option T) ReceiveError → Type 0
  TriesToReceive answer = IsReplied w old new TryRecv asked_by answer

  -- a receive that doesn't wait, nor for the lock: where another holds the lock no call is made
  abbrev pub TriesToReceiveNow : Result (Option T) ReceiveError → Type 0
  TriesToReceiveNow answer = TriesToReceive answer ⊎ ((new ≡ old) × (answer ≡ Ok None))

  -- a receive by this deadline: it may have been read when the deadline was past
  abbrev pub ReceivesBy : (ℕ → Type 0) → ℕ → Result T ReceiveErrorTimeout → Type 0
  ReceivesBy answered deadline answer =
      FinishesBy w answered deadline old new Recv receive_in_time answer ⊎ ReceivesLate w answered deadline old new answer

  -- a receive for this duration, by a clock that answered such moments
  abbrev pub ReceivesInTime : (ℕ → Type 0) → ℕ → Result T ReceiveErrorTimeout → Type 0
  ReceivesInTime answered duration answer =
      MeasuresFrom answered duration (λ deadline. ReceivesBy answered deadline answer) old new (Err ReceiveOutOfRange) answer

  -- a drain: it was made; or there was no memory for it, and the vector holds what it held
  abbrev pub Drains : List T → List T → Result ℕ ReceiveError → Type 0
  Drains before after answer =
      HasDrained w old new before after answer
      ⊎ (Lacks w old new Drain × (after ≡ before) × (answer ≡ Err ReceiveNoMemory))

  -- a seal
  abbrev pub Seals : Result (Unit {0}) CloseError → Type 0
  Seals answer = IsReplied w old new Seal closed_by answer

  -- a close
  abbrev pub Closes : Result (Unit {0}) CloseError → Type 0
  Closes answer = IsReplied w old new Close closed_by answer

  -- one more handle of a side
  abbrev pub Counts : Side → Result (Unit {0}) NoMore → Type 0
  Counts side answer = IsReplied w old new (one_more side) counted_by answer

  -- a question through a side
  abbrev pub Asks : {R : Type 0} → Side → Ask → (Reply T → R) → R → Type 0
  Asks side question read answer = IsReplied w old new (AskOf side question) read answer

  -- whether no sender is left and no message is there
  abbrev pub AsksForTheEnd : Bool → Type 0
  AsksForTheEnd answer = IsReplied w old new Terminated flag_by answer
