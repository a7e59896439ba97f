-- What one event does to the line, and what it tells.
use Rattle.std.specs.Prelude.{◌≡◌, ◌≢◌, ℕ, ◌==◌, Bool, true, false, ◌&&◌, cond, List, [], ◌∷◌, length, Option, Some, None, ◌⊎◌}
use Rattle.kanal_core.specs.declared.internal.outcome.Outcome.{Outcome}
use Rattle.kanal_core.specs.Line.{LineEntry, Line, last_word, is_at, is_bounded, capacity_word, messages, has_place, buffered, has, found}
use Rattle.kanal_core.specs.Moves.{Moved, last_count, enter, leave, drain, close, cleared, wait_send, wait_recv, without_entry, without_demand, add_sender, add_receiver, drop_sender, drop_receiver, seal}
use Rattle.kanal_events.specs.declared.event.Side.{Side}
use Rattle.kanal_events.specs.declared.event.Side.TheVariants.{Tx, Rx}
use Rattle.kanal_events.specs.declared.event.Ask.{Ask}
use Rattle.kanal_events.specs.declared.event.Ask.TheVariants.{IsBounded, Len, IsEmpty, IsFull, Capacity, ReceiverCount, SenderCount, IsClosed, IsDisconnected}
use Rattle.kanal_events.specs.declared.event.Event.{Event}
use Rattle.kanal_events.specs.declared.event.Event.TheVariants.{Send, TrySend, Recv, RecvLate, TryRecv, Drain, Withdraw, CloneTx, CloneRx, DropTx, DropRx, Seal, Close, Ask as Asks, Terminated}
use Rattle.kanal_events.specs.declared.event.Refusal.{Refusal}
use Rattle.kanal_events.specs.declared.event.Refusal.TheVariants.{Closed, ReceiveClosed, Sealed, SendClosed, Timeout, NoMemory, TooMany, CloseError, NotWaiting}
use Rattle.kanal_events.specs.declared.event.Reply.{Reply}
use Rattle.kanal_events.specs.declared.event.Reply.TheVariants.{Sent, Waits, Yes, No, Got, Nothing, Drained, Withdrawn, Done, Cleared, Number, Flag, Refused}

-- what one event tells: the line after it, the reply, the tickets that it settles, the messages that it drains and those that it clears
pub record StepSpec (T : Type 0) : Type 0 where
  pub line : Line T
  pub reply : Reply T
  pub settled : List (ℕ × Outcome T)
  pub drained : List T
  pub cleared : List T

module _ {T : Type 0} where
  -- the event gives this reply, and leaves this line
  abbrev pub only : Line T → Reply T → StepSpec T
  only line reply = record { line = line; reply = reply; settled = []; drained = []; cleared = [] }

  -- the event moves the line so, and gives this reply
  abbrev pub moving : Moved T → Reply T → StepSpec T
  moving moved reply = record { line = moved.line; reply = reply; settled = moved.settled; drained = []; cleared = [] }

  -- a message is offered: it enters, or the call goes on in its own way
  abbrev pub offer : Line T → T → Reply T → StepSpec T → StepSpec T
  offer old m entered otherwise =
      cond (old.receivers == 0)
      (only old (Refused (cond (old.senders == 0) Closed ReceiveClosed) (Some m)))
      (
      cond (old.senders == 0)
      (only old (Refused Sealed (Some m)))
      (cond (has_place old) (moving (enter old m) entered) otherwise)
      )

  -- the front is taken if there is one, or the call goes on in its own way
  abbrev pub take_front : Line T → List (LineEntry T) → StepSpec T → StepSpec T
  take_front old [] otherwise = otherwise
  take_front old (e ∷ es) otherwise = moving (leave old (e ∷ []) es) (Got e.message)

  -- a message is asked for
  abbrev pub take : Line T → StepSpec T → StepSpec T
  take old otherwise = cond (old.receivers == 0) (only old (Refused Closed None)) (take_front old old.line otherwise)

  -- on an empty line: no sender is left, or the call goes on in its own way
  abbrev pub nothing_there : Line T → StepSpec T → StepSpec T
  nothing_there old otherwise = cond (old.senders == 0) (only old (Refused SendClosed None)) otherwise

  -- a wait is started under the next ticket, if there is one
  abbrev pub wait : Line T → Line T → Option T → StepSpec T
  wait old new back = cond (old.next == last_word) (only old (Refused TooMany back)) (only new (Waits old.next))

  -- a ticket is withdrawn: a demand leaves, or an entry with its message
  abbrev pub withdraw : Line T → ℕ → List T → StepSpec T
  withdraw old t [] = cond (has t old.demands) (only (without_demand old t) (Withdrawn None)) (only old (Refused NotWaiting None))
  withdraw old t (m ∷ ms) = only (without_entry old t) (Withdrawn (Some m))

  -- both sides are gone
  abbrev pub is_closed : Line T → Bool
  is_closed old = (old.senders == 0) && (old.receivers == 0)

  -- the channel is sealed, if a sender is left: the receives that wait end
  abbrev pub seal_line : Line T → StepSpec T
  seal_line old = cond (old.senders == 0) (only old (Refused CloseError None)) (moving (seal old) Done)

  -- the channel is closed: all waits end, and the buffer is cleared
  abbrev pub shut : Line T → StepSpec T
  shut old =
      cond (is_closed old)
      (only old (Refused CloseError None))
      (record (moving (close old) (Cleared (length (cleared old)))) { cleared = cleared old })

  -- the whole line is taken
  abbrev pub take_line : Line T → StepSpec T
  take_line old =
      cond (old.receivers == 0)
      (only old (Refused Closed None))
      (record (moving (drain old) (Drained (length old.line))) { drained = messages old.line })

  -- a handle of a side with this count is cloned, if the count may rise
  abbrev pub cloned : Line T → ℕ → Line T → StepSpec T
  cloned old count new = cond (count == last_count) (only old (Refused TooMany None)) (only new Done)

  -- the other side is gone
  abbrev pub is_disconnected : Line T → Side → Bool
  is_disconnected old Tx = old.receivers == 0
  is_disconnected old Rx = old.senders == 0

  -- a question looks at the buffer, the capacity and the counts
  abbrev pub answer : Line T → Side → Ask → Reply T
  answer old side IsBounded = Flag (is_bounded old.capacity)
  answer old side Len = Number (buffered old)
  answer old side IsEmpty = Flag (buffered old == 0)
  answer old side IsFull = Flag (is_at (buffered old) old.capacity)
  answer old side Capacity = Number (capacity_word old.capacity)
  answer old side ReceiverCount = Number old.receivers
  answer old side SenderCount = Number old.senders
  answer old side IsClosed = Flag (is_closed old)
  answer old side IsDisconnected = Flag (is_disconnected old side)

  -- what the event does, through a live handle and where it is not refused for memory
  abbrev pub step : Line T → Event T → StepSpec T
  step old (Send m) = offer old m Sent (wait old (wait_send old m) (Some m))
  step old (TrySend m) = offer old m Yes (only old (No m))
  step old Recv = take old (nothing_there old (wait old (wait_recv old) None))
  step old RecvLate = take old (only old (Refused Timeout None))
  step old TryRecv = take old (nothing_there old (only old Nothing))
  step old Drain = take_line old
  step old (Withdraw t) = withdraw old t (found t old.line)
  step old CloneTx = cloned old old.senders (add_sender old)
  step old CloneRx = cloned old old.receivers (add_receiver old)
  step old DropTx = moving (drop_sender old) Done
  step old DropRx = moving (drop_receiver old) Done
  step old Seal = seal_line old
  step old Close = shut old
  step old (Asks side ask) = only old (answer old side ask)
  step old Terminated = only old (Flag ((old.senders == 0) && (length old.line == 0)))

  -- the message of an event, which a refusal gives back
  abbrev pub message_of : Event T → Option T
  message_of (Send m) = Some m
  message_of (TrySend m) = Some m
  message_of event = None

  -- the event is refused: nothing changes, and its message comes back
  abbrev pub refused : Line T → Refusal → Event T → StepSpec T
  refused old reason event = only old (Refused reason (message_of event))

  -- the call waits
  abbrev pub IsWait : Reply T → Type 0
  IsWait (Waits t) = Unit {0}
  IsWait reply = ⊥

  -- a message would lengthen an unlimited line that is not sealed, while no demand waits
  abbrev pub Lengthens : Line T → Type 0
  Lengthens old = (old.receivers ≢ 0) × (old.senders ≢ 0) × (old.demands ≡ []) × (old.capacity ≡ None)

  -- the event may be refused for memory: it would start a wait, lengthen an unlimited line that is not sealed while no demand waits, or drain a line that is not empty
  abbrev pub MayRefuse : Line T → Event T → Type 0
  MayRefuse old (Send m) = IsWait (step old (Send m)).reply ⊎ Lengthens old
  MayRefuse old (TrySend m) = Lengthens old
  MayRefuse old Recv = IsWait (step old Recv).reply
  MayRefuse old Drain = (old.receivers ≢ 0) × (old.line ≢ [])
  MayRefuse old event = ⊥

  -- the event was made, or was refused for memory where it may be
  abbrev pub Tells : Line T → Event T → StepSpec T → Type 0
  Tells old event told = (told ≡ step old event) ⊎ (MayRefuse old event × (told ≡ refused old NoMemory event))

  -- the reply to an event that found no memory: its message comes back
  abbrev pub no_memory : Event T → Reply T
  no_memory event = Refused NoMemory (message_of event)

  -- the reply says that there was no memory
  abbrev pub is_no_memory : Reply T → Bool
  is_no_memory (Refused NoMemory back) = true
  is_no_memory reply = false

  -- the reply says that what was asked was done
  abbrev pub is_done : Reply T → Bool
  is_done Done = true
  is_done reply = false
