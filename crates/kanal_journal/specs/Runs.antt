-- A whole list of events, from the opening line.
use Rattle.std.specs.Prelude.{◌≡◌, ℕ, ◌+◌, ◌-◌, ◌==◌, Bool, true, not, ◌||◌, cond, List, [], ◌∷◌, ◌++◌, length, map, Option, ◌⊎◌}
use Rattle.kanal_core.specs.declared.internal.outcome.Outcome.{Outcome}
use Rattle.kanal_core.specs.Line.{Line, messages}
use Rattle.kanal_journal.specs.declared.journal.handles.Handles.{Handles}
use Rattle.kanal_events.specs.declared.event.Side.{Side}
use Rattle.kanal_events.specs.declared.event.Side.TheVariants.{Tx, Rx}
use Rattle.kanal_events.specs.declared.event.Event.{Event}
use Rattle.kanal_events.specs.declared.event.Event.TheVariants.{Send, TrySend, Withdraw, CloneTx, CloneRx, DropTx, DropRx, Seal, Close, Ask as Asks}
use Rattle.kanal_events.specs.declared.event.Refusal.TheVariants.{NoMemory, NoHandle}
use Rattle.kanal_events.specs.declared.event.Reply.{Reply}
use Rattle.kanal_journal.specs.declared.journal.report.Settlement.{Settlement}
use Rattle.kanal_journal.specs.declared.journal.report.Report.{Report}
use Rattle.kanal_events.specs.Steps.{StepSpec, step, refused, is_done, MayRefuse}

-- the side has a live handle
abbrev pub has_side : Handles → Side → Bool
has_side handles Tx = not (handles.tx == 0)
has_side handles Rx = not (handles.rx == 0)

-- all that was told so far
pub record Account (T : Type 0) : Type 0 where
  pub line : Line T
  pub handles : Handles
  pub replies : List (Reply T)
  pub settled : List (Settlement T)
  pub drained : List T
  pub cleared : List T

module _ {T : Type 0} where
  -- one step's settlements, with its number
  abbrev pub numbered : ℕ → List (ℕ × Outcome T) → List (Settlement T)
  numbered n settled = map (λ s. record { step = n; ticket = s.0; outcome = s.1 }) settled

  -- the event's side has a live handle; a withdrawal needs none, and a seal or a close one of either side
  abbrev pub has_handle : Handles → Event T → Bool
  has_handle handles (Send m) = has_side handles Tx
  has_handle handles (TrySend m) = has_side handles Tx
  has_handle handles (Withdraw t) = true
  has_handle handles CloneTx = has_side handles Tx
  has_handle handles DropTx = has_side handles Tx
  has_handle handles Seal = has_side handles Tx || has_side handles Rx
  has_handle handles Close = has_side handles Tx || has_side handles Rx
  has_handle handles (Asks side ask) = has_side handles side
  has_handle handles event = has_side handles Rx

  -- the live handles after the event, given its reply: a clone and a drop that were made change them
  abbrev pub handles_after : Handles → Event T → Reply T → Handles
  handles_after handles CloneTx reply = cond (is_done reply) (record handles { tx = handles.tx + 1 }) handles
  handles_after handles CloneRx reply = cond (is_done reply) (record handles { rx = handles.rx + 1 }) handles
  handles_after handles DropTx reply = cond (is_done reply) (record handles { tx = handles.tx - 1 }) handles
  handles_after handles DropRx reply = cond (is_done reply) (record handles { rx = handles.rx - 1 }) handles
  handles_after handles event reply = handles

  -- what the event tells, given the live handles
  abbrev pub made : Handles → Line T → Event T → StepSpec T
  made handles old event = cond (has_handle handles event) (step old event) (refused old NoHandle event)

  -- the event was made, or was refused for memory where it may be
  abbrev pub TellsWith : Handles → Line T → Event T → StepSpec T → Type 0
  TellsWith handles old event told =
      (told ≡ made handles old event) ⊎ ((has_handle handles event ≡ true) × MayRefuse old event × (told ≡ refused old NoMemory event))

  -- what the event told is added at the end
  abbrev pub added : Account T → Event T → StepSpec T → Account T
  added old event told =
      record {
        line = told.line;
        handles = handles_after old.handles event told.reply;
        replies = old.replies ++ told.reply ∷ [];
        settled = old.settled ++ numbered (length old.replies) told.settled;
        drained = old.drained ++ told.drained;
        cleared = old.cleared ++ told.cleared;
      }

  -- the account goes on by what the event tells
  abbrev pub AccountStep : Account T → Event T → Account T → Type 0
  AccountStep old event new = (told : StepSpec T) × TellsWith old.handles old.line event told × (new ≡ added old event told)

  -- the events, one after another, lead from one account to the other
  abbrev pub Leads : Account T → List (Event T) → Account T → Type 0
  Leads old [] new = new ≡ old
  Leads old (event ∷ events) new = (mid : Account T) × AccountStep old event mid × Leads mid events new

  -- the line of a new channel, with one sender and one receiver
  abbrev pub opening_line : Option ℕ → Line T
  opening_line capacity = record { capacity = capacity; line = []; demands = []; senders = 1; receivers = 1; next = 0 }

  -- nothing was told yet
  abbrev pub opening_account : Option ℕ → Account T
  opening_account capacity = record { line = opening_line capacity; handles = record { tx = 1; rx = 1 }; replies = []; settled = []; drained = []; cleared = [] }

  -- what a report tells, with this line and these live handles
  abbrev pub account : Line T → Handles → Report T → Account T
  account line handles report = record { line = line; handles = handles; replies = report.replies.items; settled = report.settled.items; drained = report.drained.items; cleared = report.cleared.items }

  -- the report tells what the line does along the events, and what it holds at the end
  abbrev pub Runs : Option ℕ → List (Event T) → Report T → Type 0
  Runs capacity events report =
      (last : Line T) × (handles : Handles) × Leads (opening_account capacity) events (account last handles report) × (report.left.items ≡ messages last.line)
