-- What a list of steps is replied, told by first places in the list alone.
-- A place is a number from 0. Where no step passes a test, its first place is the list's length.
use Rattle.std.specs.Prelude.{◌≡◌, ℕ, suc, ◌+◌, Bool, true, false, not, ◌&&◌, ◌||◌, nat_lt, ◌==◌, List, [], ◌∷◌, length, Option, Some, None, if◌then◌else◌, slice_get}
use Rattle.kanal_cell.specs.declared.signal.steps.CellStep.{CellStep}
use Rattle.kanal_cell.specs.declared.signal.steps.CellStep.TheVariants.{Sleep, Settle, Poll, Leave, IsLeft}
use Rattle.kanal_cell.specs.declared.signal.steps.CellReply.{CellReply}
use Rattle.kanal_cell.specs.declared.signal.steps.CellReply.TheVariants.{Slept, Outcome, Pending, Settled, Left, Flag, Spent}
use Rattle.kanal_cell.specs.declared.signal.steps.CellReport.{CellReport}
use Rattle.kanal_cell.specs.declared.signal.steps.Owner.{Owner}
use Rattle.kanal_cell.specs.declared.signal.steps.Owner.TheVariants.{Nowhere, Home, Waiter, Settler}

abbrev pub is_sleep : CellStep → Bool
is_sleep Sleep = true
is_sleep step = false

abbrev pub is_settle : CellStep → Bool
is_settle (Settle p) = true
is_settle step = false

abbrev pub is_leave : CellStep → Bool
is_leave Leave = true
is_leave step = false

-- a poll or a leave looks for the outcome
abbrev pub looks : CellStep → Bool
looks Poll = true
looks step = is_leave step

-- the first place, from i on, that passes the test
abbrev pub first_from : (ℕ → CellStep → Bool) → ℕ → List CellStep → ℕ
first_from test i [] = i
first_from test i (x ∷ xs) = if test i x then i else first_from test (suc i) xs

abbrev pub first : (ℕ → CellStep → Bool) → List CellStep → ℕ
first test steps = first_from test 0 steps

abbrev pub first_sleep : List CellStep → ℕ
first_sleep = first (λ _ x. is_sleep x)

abbrev pub first_settle : List CellStep → ℕ
first_settle = first (λ _ x. is_settle x)

abbrev pub first_leave : List CellStep → ℕ
first_leave = first (λ _ x. is_leave x)

-- the place i can take the outcome: no leave came before the settle, i is after the settle, and i is a poll, a leave or the first sleep
abbrev pub takes_at : ℕ → ℕ → ℕ → ℕ → CellStep → Bool
takes_at settle leave sleep i x = not (nat_lt leave settle) && nat_lt settle i && (looks x || i == sleep)

-- the taker is the first place that can take the outcome
abbrev pub taker : List CellStep → ℕ
taker steps = first (takes_at (first_settle steps) (first_leave steps) (first_sleep steps)) steps

abbrev pub settle_outcome : Option CellStep → ℕ
settle_outcome (Some (Settle p)) = p
settle_outcome step = 0

-- what the first settle brings
abbrev pub outcome : List CellStep → ℕ
outcome steps = settle_outcome (slice_get steps (first_settle steps))

-- the first sleep is spent: it comes after the first leave or after the taker
abbrev pub is_late : ℕ → ℕ → ℕ → Bool
is_late sleep leave taker = nat_lt leave sleep || nat_lt taker sleep

-- the reply to a step at the place k, by the first sleep, settle and leave, the taker and the outcome p
abbrev pub told : ℕ → ℕ → ℕ → ℕ → ℕ → ℕ → CellStep → CellReply
told sleep settle leave taker p k Sleep = if not (k == sleep) || is_late sleep leave taker then Spent else if k == taker then Outcome p else Slept
told sleep settle leave taker p k (Settle q) = if nat_lt settle k then Spent else Settled (nat_lt sleep k && not (is_late sleep leave taker)) (if nat_lt leave k then Some q else None)
told sleep settle leave taker p k Poll = if nat_lt leave k then Spent else if k == taker then Outcome p else Pending
told sleep settle leave taker p k Leave = if nat_lt leave k then Spent else Left (if k == taker then Some p else None)
told sleep settle leave taker p k IsLeft = if nat_lt settle k then Spent else Flag (nat_lt leave k)

abbrev pub told_at : List CellStep → ℕ → CellStep → CellReply
told_at steps = told (first_sleep steps) (first_settle steps) (first_leave steps) (taker steps) (outcome steps)

abbrev pub told_there : List CellStep → ℕ → Option CellStep → Option CellReply
told_there steps k None = None
told_there steps k (Some x) = Some (told_at steps k x)

-- the reply at the place k, where the list has one
abbrev pub cell_reply_at : List CellStep → ℕ → Option CellReply
cell_reply_at steps k = told_there steps k (slice_get steps k)

-- a sleeper was registered: the first sleep is there and not spent
abbrev pub has_slept : List CellStep → Bool
has_slept steps = nat_lt (first_sleep steps) (length steps) && not (is_late (first_sleep steps) (first_leave steps) (taker steps))

abbrev pub has_ended : List CellStep → Bool
has_ended steps = nat_lt (first_settle steps) (length steps)

abbrev pub has_left : List CellStep → Bool
has_left steps = nat_lt (first_leave steps) (length steps)

-- 1 for a sleeper, 2 for a settled cell, 4 for a waiter that left
abbrev pub word_after : List CellStep → ℕ
word_after steps = (if has_slept steps then 1 else 0) + (if has_ended steps then 2 else 0) + (if has_left steps then 4 else 0)

-- the settler has the outcome if a leave came before the settle, else the waiter if there is a taker
abbrev pub owner_after : List CellStep → Owner
owner_after steps =
    if not (has_ended steps) then Nowhere
    else if nat_lt (first_leave steps) (first_settle steps) then Settler
    else if nat_lt (taker steps) (length steps) then Waiter
    else Home

-- a report is the history of these steps
pub record IsHistory (steps : List CellStep) (report : CellReport) : Type 0 where
  -- one reply a step, and each as the first places tell it
  pub replies : (k : ℕ) → slice_get report.replies.items k ≡ cell_reply_at steps k
  pub word : report.word ≡ word_after steps
  pub owner : report.owner ≡ owner_after steps
