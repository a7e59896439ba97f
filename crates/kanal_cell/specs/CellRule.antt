-- The rule of the running cell: what holds between any two of its steps, and what each step tells its end.
-- Slot 0 is the outcome's and slot 1 the sleeper's. When the cell is made the settler is lent slot 0 and the waiter slot 1.
use Rattle.std.specs.Prelude.{◌≡◌, ℕ, ◌+◌, Bool, true, false, not, ◌&&◌, ◌||◌, ◌⊎◌, List, [], ◌∷◌, Option, Some, None, if◌then◌else◌}
use mathlib.Core.Option.{some, none}
use mathlib.Core.Option as maybe
use Rattle.atomic_table.specs.Table.{State, Me, Step, rest}
use Rattle.kanal_cell.specs.declared.signal.rule.Bits.{Bits}
use Rattle.kanal_cell.specs.declared.signal.rule.Role.{Role}
use Rattle.kanal_cell.specs.declared.signal.rule.Role.TheVariants.{Maker, WaiterToBe, SettlerToBe, Waiter, Settler}
use Rattle.kanal_cell.specs.declared.signal.rule.CellView.{CellView}
use Rattle.kanal_cell.specs.declared.signal.rule.Held.{Held}
use Rattle.kanal_cell.specs.declared.signal.rule.Held.TheVariants.{Outcome, Sleeper}

abbrev pub bits : Bool → Bool → Bool → Bits
bits s e l = record { sleeping = s; ended = e; left = l }

abbrev pub no_bits : Bits
no_bits = bits false false false

-- the word with these bits: SLEEPING is 1, ENDED 2, LEFT 4
abbrev pub number : Bits → ℕ
number b = (if b.sleeping then 1 else 0) + (if b.ended then 2 else 0) + (if b.left then 4 else 0)

abbrev pub implies : Bool → Bool → Bool
implies a b = not a || b

-- every bit of the first is one of the second
abbrev pub is_within : Bits → Bits → Bool
is_within f g = implies f.sleeping g.sleeping && implies f.ended g.ended && implies f.left g.left

-- the view of an end that has made no step
abbrev pub fresh : Role → CellView
fresh r = record { role = r; steps = 0; set = no_bits; found = no_bits; had = false }

-- the view one step on
abbrev pub stepped_to : CellView → Bits → Bits → Bool → CellView
stepped_to v set found had = record { role = v.role; steps = v.steps + 1; set = set; found = found; had = had }

-- a settle that found these bits sets ENDED, and has the outcome back if LEFT was there
abbrev pub after_settle : CellView → Bits → CellView
after_settle v f = stepped_to v (bits v.set.sleeping true v.set.left) f f.left

-- a sleep sets SLEEPING, and the waiter has the outcome if ENDED was there
abbrev pub after_sleep : CellView → Bits → CellView
after_sleep v f = stepped_to v (bits true v.set.ended v.set.left) f (v.had || f.ended)

-- a poll sets nothing
abbrev pub after_poll : CellView → Bits → CellView
after_poll v f = stepped_to v v.set f (v.had || f.ended)

-- a leave sets LEFT
abbrev pub after_leave : CellView → Bits → CellView
after_leave v f = stepped_to v (bits v.set.sleeping v.set.ended true) f (v.had || f.ended)

-- the caller's conditions: the end is unspent, and a sleeper is registered once and before any outcome
abbrev pub HasNotLeft : CellView → Type 0
HasNotLeft v = v.set.left ≡ false

abbrev pub HasNotSettled : CellView → Type 0
HasNotSettled v = v.set.ended ≡ false

abbrev pub MaySleep : CellView → Type 0
MaySleep v = HasNotLeft v × (v.set.sleeping ≡ false) × (v.had ≡ false)

-- the end is still waited at: it has neither left nor had the outcome
abbrev pub StillWaits : CellView → Type 0
StillWaits v = HasNotLeft v × (v.had ≡ false)

-- the bits of the word, by the views of the waiter and the settler: each bit is set by the end that it belongs to
abbrev pub word_bits : CellView → CellView → Bits
word_bits w t = bits w.set.sleeping t.set.ended w.set.left

-- What the views of the two ends say together.
-- The waiter had the outcome only if it ended and did not go back to the settler; the settler has it back only if the waiter left;
-- where the waiter left second, it has the outcome; of sleep and settle, the second comer has what the first one brought.
-- The Bools: the waiter slept, left, had the outcome; the settler ended, has it back, found SLEEPING.
abbrev pub agreement : Bool → Bool → Bool → Bool → Bool → Bool → Bool
agreement slept left had ended back found_sleeping =
    implies had (ended && not back)
    && implies back (ended && left)
    && implies (ended && not back && left) had
    && implies (ended && not found_sleeping && slept) had
    && implies (ended && found_sleeping) slept

abbrev pub agree : CellView → CellView → Bool
agree w t = agreement w.set.sleeping w.set.left w.had t.set.ended t.had t.found.sleeping

-- What the views say of steps that were made: the waiter w and the settler t.
pub record Recalls (w t : CellView) : Type 0 where
  -- the settler has the outcome back exactly if it ended and found LEFT
  pub back : t.had ≡ t.set.ended && t.found.left
  -- the waiter had the outcome exactly if its last step found ENDED
  pub had : w.had ≡ w.found.ended
  -- the settler made one step if it ended, and none before
  pub once : t.steps ≡ (if t.set.ended then 1 else 0)
  -- a bit that was ever found is in the word
  pub waiter_found : is_within w.found (word_bits w t) ≡ true
  pub settler_found : is_within t.found (word_bits w t) ≡ true
  -- neither end set a bit of the other's
  pub waiter_set : w.set.ended ≡ false
  pub settler_set : (t.set.sleeping ≡ false) × (t.set.left ≡ false)
  -- before it settles, the settler has found no bit
  pub settler_new : t.set.ended ≡ false → t.found ≡ no_bits

-- the outcome is in the cell: it ended, and neither end has it
abbrev pub outcome_is_home : CellView → CellView → Bool
outcome_is_home w t = t.set.ended && not t.had && not w.had

-- the sleeper is in the cell
abbrev pub is_asleep : CellView → CellView → Bool
is_asleep w t = w.set.sleeping && not t.set.ended

abbrev pub CellSlot : Type 0 → Type 0
CellSlot P = Option (Held P)

-- a view, and the slots that its end is lent
abbrev pub Seated : Type 0 → Type 0
Seated P = Me (CellSlot P) CellView

module _ {P : Type 0} where
  -- the slot is at home with something of this kind if the test holds, else it is lent out
  abbrev pub LiesIf : Bool → (Held P → Type 0) → maybe.Option (CellSlot P) → Type 0
  LiesIf true kind h = (x : Held P) × (h ≡ some (Some x)) × kind x
  LiesIf false kind h = h ≡ none

  abbrev pub IsOutcome : Held P → Type 0
  IsOutcome (Outcome p) = Unit {0}
  IsOutcome (Sleeper u) = ⊥

  abbrev pub IsSleeper : Held P → Type 0
  IsSleeper (Outcome p) = ⊥
  IsSleeper (Sleeper u) = Unit {0}

  -- the outcome's slot: with the settler until it ends, then at home until an end takes it
  abbrev pub OutcomeLies : CellView → CellView → Role → maybe.Option (CellSlot P) → Type 0
  OutcomeLies w t SettlerToBe h = (h ≡ some None) × (t ≡ fresh SettlerToBe)
  OutcomeLies w t Settler h = LiesIf (outcome_is_home w t) IsOutcome h
  OutcomeLies w t role h = ⊥

  -- a cell with this word, these two slots and these views
  abbrev pub cell_state : ℕ → maybe.Option (CellSlot P) → maybe.Option (CellSlot P) → List CellView → State (CellSlot P) CellView
  cell_state n h k vs = record { words = n ∷ []; homes = h ∷ k ∷ []; views = vs }

  -- while the cell is made, there is one seat, and the word is 0
  abbrev pub IsBeingMade : State (CellSlot P) CellView → Type 0
  IsBeingMade s = (s ≡ cell_state 0 (some None) (some None) (fresh Maker ∷ [])) ⊎ (s ≡ cell_state 0 (some None) none (fresh WaiterToBe ∷ []))

  -- the cell has its two ends
  pub record HasBothEnds (s : State (CellSlot P) CellView) : Type 0 where
    pub waiter : CellView
    pub settler : CellView
    pub outcome : maybe.Option (CellSlot P)
    pub sleeper : maybe.Option (CellSlot P)
    pub is : s ≡ cell_state (number (word_bits waiter settler)) outcome sleeper (waiter ∷ settler ∷ [])
    pub waits : waiter.role ≡ Waiter
    pub agreed : agree waiter settler ≡ true
    pub outcome_lies : OutcomeLies waiter settler settler.role outcome
    pub sleeper_lies : LiesIf (is_asleep waiter settler) IsSleeper sleeper
    pub recalls : Recalls waiter settler

  -- the rule of the cell
  abbrev pub FollowsRule : State (CellSlot P) CellView → Type 0
  FollowsRule s = IsBeingMade s ⊎ HasBothEnds s

  -- the making of a cell: the waiter is lent the sleeper's slot, and the settler the outcome's
  abbrev pub waiter_began : Step (CellSlot P) → Seated P → ℕ → Seated P → Type 0
  waiter_began st m r n = n ≡ (fresh WaiterToBe, (1, None) ∷ [])

  abbrev pub settler_began : Step (CellSlot P) → Seated P → ℕ → Seated P → Type 0
  settler_began st m r n = n ≡ (fresh Settler, (0, None) ∷ [])

  -- the end was lent the slot k with something of this kind if the test holds, else no slot more
  abbrev pub TookIf : Bool → ℕ → (Held P → Type 0) → List (ℕ × CellSlot P) → List (ℕ × CellSlot P) → Type 0
  TookIf true k kind c d = (x : Held P) × kind x × (d ≡ (k, Some x) ∷ c)
  TookIf false k kind c d = d ≡ c

  -- What each step tells: the bits that it found, its end's view after it, and the slots that the end is lent then.
  -- a settle gives the outcome's slot unless LEFT was there, and takes the sleeper's if SLEEPING was
  abbrev pub settled : Step (CellSlot P) → Seated P → ℕ → Seated P → Type 0
  settled st m r n = (f : Bits) × (r ≡ number f) × (n.0 ≡ after_settle m.0 f) × TookIf f.sleeping 1 IsSleeper (if f.left then m.1 else rest m.1) n.1

  -- a sleep takes the outcome's slot if ENDED was there, and else gives the sleeper's
  abbrev pub slept : Step (CellSlot P) → Seated P → ℕ → Seated P → Type 0
  slept st m r n = (f : Bits) × (r ≡ number f) × (n.0 ≡ after_sleep m.0 f) × TookIf f.ended 0 IsOutcome (if f.ended then m.1 else rest m.1) n.1

  -- a poll takes the outcome's slot if ENDED was there and the waiter hadn't it before
  abbrev pub polled : Step (CellSlot P) → Seated P → ℕ → Seated P → Type 0
  polled st m r n = (f : Bits) × (r ≡ number f) × (n.0 ≡ after_poll m.0 f) × TookIf (f.ended && not m.0.had) 0 IsOutcome m.1 n.1

  -- a leave does the same
  abbrev pub quit : Step (CellSlot P) → Seated P → ℕ → Seated P → Type 0
  quit st m r n = (f : Bits) × (r ≡ number f) × (n.0 ≡ after_leave m.0 f) × TookIf (f.ended && not m.0.had) 0 IsOutcome m.1 n.1

  -- the slot that was taken last is k, with something of this kind
  abbrev pub Carries : ℕ → (Held P → Type 0) → List (ℕ × CellSlot P) → Type 0
  Carries k kind c = (x : Held P) × kind x × (c ≡ (k, Some x) ∷ rest c)

  -- the waiter has the sleeper's slot, empty, until it sleeps or has the outcome
  abbrev pub IsWaiter : CellView → List (ℕ × CellSlot P) → Type 0
  IsWaiter v c = (v.role ≡ Waiter) × (v.set.sleeping || v.had ≡ false → c ≡ (1, None) ∷ [])

  -- the settler has the outcome's slot, empty, until it settles
  abbrev pub IsSettler : CellView → List (ℕ × CellSlot P) → Type 0
  IsSettler v c = (v.role ≡ Settler) × (v.set.ended ≡ false → c ≡ (0, None) ∷ [])
