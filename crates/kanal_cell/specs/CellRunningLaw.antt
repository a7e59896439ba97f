-- What holds of a running cell between any two of its steps: the law of the cell, of the word, the slots at home and the two views.
use Rattle.std.specs.Prelude.{◌≡◌, ℕ, true, false, not, ◌⊎◌, [], ◌∷◌, Some, if◌then◌else◌}
use mathlib.Core.Option.{some, none}
use mathlib.Core.Option as maybe
use Rattle.atomic_table.specs.Table.{State, Step}
use Rattle.kanal_cell.specs.declared.signal.steps.Owner.{Owner}
use Rattle.kanal_cell.specs.declared.signal.steps.Owner.TheVariants.{Nowhere, Home, Waiter, Settler}
use Rattle.kanal_cell.specs.declared.signal.rule.Bits.{Bits}
use Rattle.kanal_cell.specs.declared.signal.rule.CellView.{CellView}
use Rattle.kanal_cell.specs.declared.signal.rule.Held.{Held}
use Rattle.kanal_cell.specs.CellRule.{CellSlot, Seated, HasBothEnds, is_within, number, word_bits, IsOutcome, IsSleeper, Carries, settled, slept, quit, after_settle, after_sleep, after_poll, after_leave, HasNotLeft, HasNotSettled}

-- who has the outcome, by the two views
abbrev pub owner_now : CellView → CellView → Owner
owner_now w t = if not t.set.ended then Nowhere else if t.had then Settler else if w.had then Waiter else Home

-- what each step keeps of its end's view v, whatever bits f it found
pub record StepLaw : Type 0 where
  -- a bit that an end set stays set
  pub settle_keeps : (v : CellView) (f : Bits) → is_within v.set (after_settle v f).set ≡ true
  pub sleep_keeps : (v : CellView) (f : Bits) → is_within v.set (after_sleep v f).set ≡ true
  pub poll_keeps : (v : CellView) (f : Bits) → is_within v.set (after_poll v f).set ≡ true
  pub leave_keeps : (v : CellView) (f : Bits) → is_within v.set (after_leave v f).set ≡ true
  -- a settle and a leave spend their end, so each is made at most once
  pub settles_once : (v : CellView) (f : Bits) → HasNotSettled (after_settle v f) → ⊥
  pub leaves_once : (v : CellView) (f : Bits) → HasNotLeft (after_leave v f) → ⊥

module _ {P : Type 0} where
  -- something of this kind lies in the slot at home
  abbrev pub LiesIn : (Held P → Type 0) → maybe.Option (CellSlot P) → Type 0
  LiesIn kind h = (x : Held P) × (h ≡ some (Some x)) × kind x

  -- nothing of this kind lies in the slot at home
  abbrev pub LacksIn : (Held P → Type 0) → maybe.Option (CellSlot P) → Type 0
  LacksIn kind h = LiesIn kind h → ⊥

  -- the outcome is with the owner and with nobody else
  abbrev pub OwnedBy : CellView → CellView → maybe.Option (CellSlot P) → Owner → Type 0
  OwnedBy w t h Nowhere = (w.had ≡ false) × (t.had ≡ false) × LacksIn IsOutcome h
  OwnedBy w t h Home = (w.had ≡ false) × (t.had ≡ false) × LiesIn IsOutcome h
  OwnedBy w t h Waiter = (w.had ≡ true) × (t.had ≡ false) × LacksIn IsOutcome h
  OwnedBy w t h Settler = (w.had ≡ false) × (t.had ≡ true) × LacksIn IsOutcome h

  -- the law, of the cell in the state s
  pub record RunningLaw (s : State (CellSlot P) CellView) (r : HasBothEnds s) : Type 0 where
    -- the one word and the two slots of the cell
    pub word : s.words ≡ number (word_bits r.waiter r.settler) ∷ []
    pub slots : s.homes ≡ r.outcome ∷ r.sleeper ∷ []
    -- bits are only set: the word has every bit that an end found or set
    pub waiter_bits : (is_within r.waiter.found (word_bits r.waiter r.settler) ≡ true) × (is_within r.waiter.set (word_bits r.waiter r.settler) ≡ true)
    pub settler_bits : (is_within r.settler.found (word_bits r.waiter r.settler) ≡ true) × (is_within r.settler.set (word_bits r.waiter r.settler) ≡ true)
    -- the settler ends the cell by one step and makes no other
    pub settled_once : r.settler.steps ≡ (if r.settler.set.ended then 1 else 0)
    -- the outcome has exactly one owner
    pub owned : OwnedBy r.waiter r.settler r.outcome (owner_now r.waiter r.settler)
    -- of a leave and a settle, a settle that came second has the outcome back
    pub settle_second : r.settler.set.ended ≡ true → r.settler.found.left ≡ true → owner_now r.waiter r.settler ≡ Settler
    -- and after a leave that came second the waiter has had it
    pub leave_second : r.settler.set.ended ≡ true → r.settler.found.left ≡ false → r.waiter.set.left ≡ true → owner_now r.waiter r.settler ≡ Waiter
    -- a sleeper lies in the cell from the sleep on until the settle
    pub sleeper_waits : r.waiter.set.sleeping ≡ true → r.settler.set.ended ≡ false → LiesIn IsSleeper r.sleeper
    -- from the settle on no sleeper is left behind: the sleeper's slot is lent out, to the settle that found it or to a sleep that came second
    pub sleeper_taken : r.settler.set.ended ≡ true → r.sleeper ≡ none
    -- and a sleep that came second got the outcome
    pub sleep_second : r.settler.set.ended ≡ true → r.settler.found.sleeping ≡ false → r.waiter.set.sleeping ≡ true → owner_now r.waiter r.settler ≡ Waiter

-- what the second comer holds right after its step, where m is its end before the step, n after it
pub record SecondHolds (P : Type 0) : Type 0 where
  -- a settle that found SLEEPING holds the sleeper
  pub settle_sleeper : (st : Step (CellSlot P)) (m : Seated P) (r : ℕ) (n : Seated P) → settled st m r n → n.0.found.sleeping ≡ true → Carries 1 IsSleeper n.1
  -- a settle that found LEFT still holds the outcome that it put, with the sleeper on top if there was one
  pub outcome_of : (st : Step (CellSlot P)) (m : Seated P) (r : ℕ) (n : Seated P) (x : Held P) → settled st m r n → n.0.found.left ≡ true → m.1 ≡ (0, Some x) ∷ []
      → (n.1 ≡ (0, Some x) ∷ []) ⊎ ((y : Held P) × (n.1 ≡ (1, Some y) ∷ (0, Some x) ∷ []))
  -- a sleep that found ENDED holds the outcome
  pub sleep_outcome : (st : Step (CellSlot P)) (m : Seated P) (r : ℕ) (n : Seated P) → slept st m r n → n.0.found.ended ≡ true → Carries 0 IsOutcome n.1
  -- a leave that found ENDED holds the outcome, unless a poll or a sleep had it before
  pub leave_outcome : (st : Step (CellSlot P)) (m : Seated P) (r : ℕ) (n : Seated P) → quit st m r n → n.0.found.ended ≡ true → m.0.had ≡ false → Carries 0 IsOutcome n.1
