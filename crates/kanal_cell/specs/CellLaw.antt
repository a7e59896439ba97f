-- What holds of the history of every list of steps, and so at every cut of it: the cut at n is the list of the first n steps.
use Rattle.std.specs.Prelude.{◌≡◌, ◌≢◌, ℕ, ◌<◌, ◌≤◌, Bool, true, false, ◌||◌, ◌⊎◌, is_some, List, take, Option, Some, None, slice_get}
use Rattle.kanal_cell.specs.declared.signal.steps.CellStep.{CellStep}
use Rattle.kanal_cell.specs.declared.signal.steps.CellStep.TheVariants.{Sleep, Settle, Leave}
use Rattle.kanal_cell.specs.declared.signal.steps.CellReply.{CellReply}
use Rattle.kanal_cell.specs.declared.signal.steps.CellReply.TheVariants.{Outcome, Settled, Left, Spent}
use Rattle.kanal_cell.specs.declared.signal.steps.Owner.{Owner}
use Rattle.kanal_cell.specs.declared.signal.steps.Owner.TheVariants.{Nowhere, Home, Waiter, Settler}
use Rattle.kanal_cell.specs.CellHistory.{first_settle, first_leave, cell_reply_at, has_slept, has_ended, has_left, owner_after}

-- the step at the place k is x, and its reply isn't `Spent`
abbrev pub Makes : List CellStep → ℕ → CellStep → Type 0
Makes steps k x = (slice_get steps k ≡ Some x) × (cell_reply_at steps k ≢ Some Spent)

-- the first settle is there and brings the outcome p
abbrev pub Brings : List CellStep → ℕ → Type 0
Brings steps p = slice_get steps (first_settle steps) ≡ Some (Settle p)

-- the outcome that a reply hands to the waiter
abbrev pub to_waiter : Option CellReply → Option ℕ
to_waiter (Some (Outcome p)) = Some p
to_waiter (Some (Left given)) = given
to_waiter reply = None

-- the outcome that a reply hands back to the settler
abbrev pub to_settler : Option CellReply → Option ℕ
to_settler (Some (Settled woke back)) = back
to_settler reply = None

-- a reply hands the outcome out
abbrev pub gives : Option CellReply → Bool
gives reply = is_some (to_waiter reply) || is_some (to_settler reply)

-- the owner is the one that the replies tell: what the settle brought was handed to nobody, to the waiter by one reply, or back to the settler by one
abbrev pub OwnedAsTold : List CellStep → Owner → Type 0
OwnedAsTold steps Nowhere = (has_ended steps ≡ false) × ((k : ℕ) → gives (cell_reply_at steps k) ≡ false)
OwnedAsTold steps Home = (p : ℕ) × Brings steps p × ((k : ℕ) → gives (cell_reply_at steps k) ≡ false)
OwnedAsTold steps Waiter = (p : ℕ) × Brings steps p × (k : ℕ) × (to_waiter (cell_reply_at steps k) ≡ Some p)
OwnedAsTold steps Settler = (p : ℕ) × Brings steps p × (k : ℕ) × (to_settler (cell_reply_at steps k) ≡ Some p)

-- the law of one history
pub record IsLawful (steps : List CellStep) : Type 0 where
  -- of two settles, and of two leaves, the later one is spent
  pub settles_once : (j k p q : ℕ) → j < k → slice_get steps j ≡ Some (Settle p) → slice_get steps k ≡ Some (Settle q) → cell_reply_at steps k ≡ Some Spent
  pub leaves_once : (j k : ℕ) → j < k → slice_get steps j ≡ Some Leave → slice_get steps k ≡ Some Leave → cell_reply_at steps k ≡ Some Spent
  -- each of the three bits comes from a step of its own that isn't spent
  pub slept_by : has_slept steps ≡ true → (k : ℕ) × Makes steps k Sleep
  pub ended_by : has_ended steps ≡ true → (k : ℕ) × (p : ℕ) × Makes steps k (Settle p)
  pub left_by : has_left steps ≡ true → (k : ℕ) × Makes steps k Leave
  -- two places whose replies hand the outcome out are one place
  pub gives_once : (j k : ℕ) → gives (cell_reply_at steps j) ≡ true → gives (cell_reply_at steps k) ≡ true → j ≡ k
  -- the outcome has one owner, the one that the replies tell
  pub owned : OwnedAsTold steps (owner_after steps)
  -- a first settle after the first leave gives the outcome back to the settler
  pub settle_second : (p : ℕ) → first_leave steps < first_settle steps → Brings steps p → to_settler (cell_reply_at steps (first_settle steps)) ≡ Some p
  -- a first leave after the first settle gives the waiter the outcome, unless a poll or a sleep between the two gave it
  pub leave_second : (p : ℕ) → first_settle steps < first_leave steps → Brings steps p → slice_get steps (first_leave steps) ≡ Some Leave
      → (cell_reply_at steps (first_leave steps) ≡ Some (Left (Some p))) ⊎ ((k : ℕ) × (first_settle steps < k) × (k < first_leave steps) × (cell_reply_at steps k ≡ Some (Outcome p)))
  -- a first settle after an unspent sleep takes the sleeper
  pub settle_wakes : (k p : ℕ) → Makes steps k Sleep → Brings steps p → k < first_settle steps → (back : Option ℕ) × (cell_reply_at steps (first_settle steps) ≡ Some (Settled true back))
  -- an unspent sleep after the first settle gets the outcome
  pub sleep_gets : (k p : ℕ) → Makes steps k Sleep → Brings steps p → first_settle steps < k → cell_reply_at steps k ≡ Some (Outcome p)

-- the law at every cut of a list
pub record CellLaw (steps : List CellStep) : Type 0 where
  -- each cut's own history is lawful
  pub lawful : (n : ℕ) → IsLawful (take n steps)
  -- a longer list replies to its first n steps as these alone are replied
  pub replies_stay : (n k : ℕ) → k < n → cell_reply_at (take n steps) k ≡ cell_reply_at steps k
  -- bits are only set: a later cut has the bits of an earlier one
  pub slept_stays : (n m : ℕ) → n ≤ m → has_slept (take n steps) ≡ true → has_slept (take m steps) ≡ true
  pub ended_stays : (n m : ℕ) → n ≤ m → has_ended (take n steps) ≡ true → has_ended (take m steps) ≡ true
  pub left_stays : (n m : ℕ) → n ≤ m → has_left (take n steps) ≡ true → has_left (take m steps) ≡ true
