-- Words of the laws that users of a channel lean on.
use Rattle.std.specs.Prelude.{◌≡◌, ◌≢◌, ◌⊎◌, ◌↔◌, ℕ, ◌+◌, ◌≤◌, ◌==◌, Bool, true, false, not, List, [], ◌∷◌, length, map, filter, Option, Some, None}
use Rattle.std.specs.Option.{is_some}
use Rattle.kanal_core.specs.Line.{LineEntry, Line, is_at, is_below, buffered, tickets, has_place}
use Rattle.kanal_events.specs.declared.event.Event.{Event}
use Rattle.kanal_events.specs.declared.event.Event.TheVariants.{TrySend, Recv, TryRecv, Close}
use Rattle.kanal_events.specs.declared.event.Refusal.TheVariants.{Closed, SendClosed, NoHandle, NoMemory, CloseError}
use Rattle.kanal_events.specs.declared.event.Reply.{Reply}
use Rattle.kanal_events.specs.declared.event.Reply.TheVariants.{Yes, Refused}
use Rattle.kanal_journal.specs.declared.journal.report.Settlement.{Settlement}
use Rattle.kanal_events.specs.declared.event.Side.TheVariants.{Tx}
use Rattle.kanal_journal.specs.declared.journal.handles.Handles.{Handles}
use Rattle.kanal_events.specs.Steps.{StepSpec}
use Rattle.kanal_journal.specs.Runs.{Account, TellsWith, Leads, opening_account, has_side}
use Rattle.kanal_journal.specs.Paired.{PairedHistory, history_from, along, withdrawn_ticket, kept, demands}

-- the numbers rise, from `low` on and below `next`
abbrev pub AreRising : ℕ → List ℕ → ℕ → Type 0
AreRising low [] next = low ≤ next
AreRising low (t ∷ ts) next = (low ≤ t) × AreRising (t + 1) ts next

module _ {T : Type 0} where
  -- the entries, of which the first stands at this place, have a ticket exactly from the capacity on: those whose place is below it have none
  abbrev pub WaitByPlace : Option ℕ → ℕ → List (LineEntry T) → Type 0
  WaitByPlace capacity place [] = Unit {0}
  WaitByPlace capacity place (e ∷ es) = (is_some e.ticket ≡ not (is_below place capacity)) × WaitByPlace capacity (place + 1) es

  -- the entries without a ticket
  abbrev pub without_ticket : List (LineEntry T) → List (LineEntry T)
  without_ticket line = filter (λ e. not (is_some e.ticket)) line

  -- the tickets that the step settled, in the order in which they stand
  abbrev pub settled_at : ℕ → List (Settlement T) → List ℕ
  settled_at step settled = map (λ s. s.ticket) (filter (λ s. s.step == step) settled)

  -- the tickets that each step settled rise, and were given
  abbrev pub EachStepRises : List (Settlement T) → ℕ → Type 0
  EachStepRises settled next = (step : ℕ) → AreRising 0 (settled_at step settled) next

  -- the history that an account tells of these events
  abbrev pub told_history : List (Event T) → Account T → PairedHistory T
  told_history events account = history_from events account.replies account.settled account.drained

  -- how often the ticket was settled
  abbrev pub settled_times : ℕ → List (Settlement T) → ℕ
  settled_times t settled = length (filter (λ s. s.ticket == t) settled)

  -- how often the ticket was withdrawn
  abbrev pub withdrawn_times : ℕ → List (Event T) → List (Reply T) → ℕ
  withdrawn_times t events replies = length (filter (λ u. u == t) (along withdrawn_ticket events replies))

  -- no ticket was settled and withdrawn, or one of both twice
  abbrev pub EndsOnce : List (Event T) → List (Reply T) → List (Settlement T) → Type 0
  EndsOnce events replies settled = (t : ℕ) → settled_times t settled + withdrawn_times t events replies ≤ 1

  -- a call that receives, and may wait or not
  abbrev pub is_receive : Event T → Bool
  is_receive Recv = true
  is_receive TryRecv = true
  is_receive event = false

  -- the reply says that nothing will come any more
  abbrev pub tells_end : Reply T → Bool
  tells_end (Refused Closed back) = true
  tells_end (Refused SendClosed back) = true
  tells_end reply = false

  -- the reply says so, or that the side has no live handle
  abbrev pub tells_end_or_no_handle : Reply T → Bool
  tells_end_or_no_handle (Refused Closed back) = true
  tells_end_or_no_handle (Refused SendClosed back) = true
  tells_end_or_no_handle (Refused NoHandle back) = true
  tells_end_or_no_handle reply = false

  -- each receive is told so
  abbrev pub AreOver : List (Event T) → List (Reply T) → Type 0
  AreOver [] replies = Unit {0}
  AreOver (event ∷ events) [] = Unit {0}
  AreOver (event ∷ events) (reply ∷ replies) = (is_receive event ≡ true → tells_end_or_no_handle reply ≡ true) × AreOver events replies

  -- once a receive was told that nothing will come, each later one is told so, too
  abbrev pub StaysOver : List (Event T) → List (Reply T) → Type 0
  StaysOver [] replies = Unit {0}
  StaysOver (event ∷ events) [] = Unit {0}
  StaysOver (event ∷ events) (reply ∷ replies) = (is_receive event ≡ true → tells_end reply ≡ true → AreOver events replies) × StaysOver events replies

  -- whatever the events may lead to on a new channel of this capacity, the account is so
  abbrev pub EachAccount : Option ℕ → List (Event T) → (Account T → Type 0) → Type 0
  EachAccount capacity events IsSo = (a : Account T) → Leads (opening_account capacity) events a → IsSo a

  -- whatever the events may lead to on a new channel of this capacity, the line is so
  abbrev pub EachLine : Option ℕ → List (Event T) → (Line T → Type 0) → Type 0
  EachLine capacity events IsSo = EachAccount capacity events (λ a. IsSo a.line)

  -- no message is there, or no receive waits
  abbrev pub HasOneSide : Line T → Type 0
  HasOneSide l = (l.line ≡ []) ⊎ (l.demands ≡ [])

  -- the line and the kept demands are together as many as the kept messages and the demands that wait
  abbrev pub IsBalanced : PairedHistory T → Line T → Type 0
  IsBalanced h l = length l.line + length (demands h) ≡ length (kept h) + length l.demands

  -- a sender waits only while the buffer is full
  abbrev pub WaitsWhenFull : Line T → Type 0
  WaitsWhenFull l = tickets l.line ≢ [] → is_at (buffered l) l.capacity ≡ true

  -- a `TrySend` through a live handle, with a sender and a receiver left, enters exactly where there is a place, unless it is refused for memory
  abbrev pub EntersByPlace : Handles → Line T → Type 0
  EntersByPlace handles l =
      (m : T) (told : StepSpec T) → TellsWith handles l (TrySend m) told → has_side handles Tx ≡ true → l.receivers ≢ 0 → l.senders ≢ 0
      → told.reply ≢ Refused NoMemory (Some m) → told.reply ≡ Yes ↔ (has_place l ≡ true)

  -- where the events led to a line on which this count is 0, it is 0 after all later events, too
  abbrev pub StaysZero : Option ℕ → List (Event T) → (Line T → ℕ) → Type 0
  StaysZero capacity events count =
      (a b : Account T) → Leads (opening_account capacity) events a → (later : List (Event T)) → Leads a later b
      → count a.line ≡ 0 → count b.line ≡ 0

  -- a refused close leaves the line as it was, and tells nothing
  abbrev pub KeepsWhereRefused : Handles → Line T → Type 0
  KeepsWhereRefused handles l =
      (told : StepSpec T) → TellsWith handles l Close told → told.reply ≡ Refused CloseError None
      → (told.line ≡ l) × (told.settled ≡ []) × (told.cleared ≡ [])
