-- The slot of the outcome, slot 0, over the life of a cell: it is filled once, before ENDED is set, and a take is lent what lies there.
use Rattle.std.specs.Prelude.{◌≡◌, ℕ, true, false, ◌⊎◌, ◌∷◌, Some, slice_index}
use mathlib.Core.Option.{some}
use lib.ListN.{get_elem?}
use Rattle.atomic_table.specs.Table.{State, Step, Act, Valid, Allows, stepped, carried_after, rest}
use Rattle.kanal_cell.specs.declared.signal.rule.Role.TheVariants.{Settler}
use Rattle.kanal_cell.specs.declared.signal.rule.CellView.{CellView}
use Rattle.kanal_cell.specs.declared.signal.rule.Held.{Held}
use Rattle.kanal_cell.specs.CellRule.{CellSlot, Seated, HasBothEnds, FollowsRule, IsOutcome, Carries, HasNotSettled, fresh, settled, slept, polled, quit}
use Rattle.kanal_cell.specs.CellSlots.{IsNotLent, IsLentWith, LiesAtHome, IsOut}

module _ {P : Type 0} where
  -- a step of the waiter: a sleep, a poll or a leave
  abbrev pub waited : Step (CellSlot P) → Seated P → ℕ → Seated P → Type 0
  waited st m r n = slept st m r n ⊎ polled st m r n ⊎ quit st m r n

  -- A step of an end. The cell is in the state s before it and in the state t after it; the end has the seat m before it and n after it.
  pub record EndStep (told : Seated P → ℕ → Seated P → Type 0) (s t : State (CellSlot P) CellView) (m n : Seated P) : Type 0 where
    -- the cell keeps its rule
    pub before : HasBothEnds s
    pub after : HasBothEnds t
    -- the view of the end stands here among the views
    pub place : ℕ
    pub seat : get_elem? s.views place ≡ some m.0
    -- the table makes the step: the word becomes this one, and `act` takes and gives slots
    pub word : ℕ
    pub act : Act (CellSlot P)
    pub valid : Valid s.homes m.1 act
    pub is : t ≡ stepped s 0 word place m.1 n.0 act
    pub lent : n.1 ≡ carried_after m.1 act
    -- the step tells this of the word that it found
    pub tells : told m (slice_index s.words 0) n

  -- the table lets the settler with the seat m make a settle's step, whatever running cell it finds; f is what the step does to the word
  abbrev pub MaySettle : (ℕ → ℕ) → Step (CellSlot P) → Seated P → Type 0
  MaySettle f st m = Allows FollowsRule 2 1 m 0 f (settled st m)

-- What becomes of the outcome's slot once the cell has its two ends.
pub record OutcomeSlot (P : Type 0) : Type 0 where
  -- until the settle the settler's view is that of a new end, and the slot is out: nothing lies in it at home
  pub out_before : (s : State (CellSlot P) CellView) (r : HasBothEnds s) → r.settler.role ≡ Settler → HasNotSettled r.settler → (r.settler ≡ fresh Settler) × IsOut 0 s.homes
  -- a new end may make the settle's step only once it has put an outcome into the slot, which it is lent
  pub put_before : (f : ℕ → ℕ) (st : Step (CellSlot P)) (m : Seated P) → m.0 ≡ fresh Settler → MaySettle f st m → Carries 0 IsOutcome m.1
  -- the settle's step finds no ENDED and sets it, so it is made once
  pub ends_once : (st : Step (CellSlot P)) (s t : State (CellSlot P) CellView) (m n : Seated P) → EndStep (settled st) s t m n
      → HasNotSettled m.0 × (n.0.found.ended ≡ false) × (n.0.set.ended ≡ true)
  -- after a settle that found no LEFT the outcome that the settler had put lies at home,
  pub handed_over : (st : Step (CellSlot P)) (s t : State (CellSlot P) CellView) (m n : Seated P) → EndStep (settled st) s t m n → n.0.found.left ≡ false
      → (x : Held P) × IsOutcome x × (m.1 ≡ (0, Some x) ∷ rest m.1) × LiesAtHome 0 (Some x) t.homes
  -- and the settler is lent the slot no more
  pub given_away : (st : Step (CellSlot P)) (s t : State (CellSlot P) CellView) (m n : Seated P) (v : CellSlot P) → EndStep (settled st) s t m n → n.0.found.left ≡ false
      → IsLentWith 0 v m.1 → IsNotLent 0 n.1
  -- after a settle that found LEFT the slot is out, and the settler is still lent it with what it had put there
  pub kept_back : (st : Step (CellSlot P)) (s t : State (CellSlot P) CellView) (m n : Seated P) (v : CellSlot P) → EndStep (settled st) s t m n → n.0.found.left ≡ true
      → IsLentWith 0 v m.1 → IsOut 0 t.homes × IsLentWith 0 v n.1
  -- where something lies in the slot at home, the waiter's next step takes it: the end is lent the slot with that in it, on top of what it was lent
  pub taken : (st : Step (CellSlot P)) (s t : State (CellSlot P) CellView) (m n : Seated P) (x : Held P) → EndStep (waited st) s t m n
      → LiesAtHome 0 (Some x) s.homes → IsOut 0 t.homes × (n.1 ≡ (0, Some x) ∷ m.1)
  -- and no step of the waiter brings the slot home
  pub not_refilled : (st : Step (CellSlot P)) (s t : State (CellSlot P) CellView) (m n : Seated P) → EndStep (waited st) s t m n → IsOut 0 s.homes → IsOut 0 t.homes
