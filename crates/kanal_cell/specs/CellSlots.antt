-- What a slot of a cell holds, at home or lent to an end, and that no step changes it.
use Rattle.std.specs.Prelude.{◌≡◌, ◌≢◌, ◌⊎◌, ℕ, List, [], ◌∷◌}
use mathlib.Core.Option.{some, none}
use mathlib.Core.Option as maybe
use lib.ListN.{get_elem?}
use Rattle.atomic_table.specs.Table.{Act, Valid, homes_after, carried_after}
use Rattle.kanal_cell.specs.CellRule.{CellSlot}

module _ {S : Type 0} where
  -- the slot k is not among those that an end is lent
  abbrev pub IsNotLent : ℕ → List (ℕ × S) → Type 0
  IsNotLent k [] = Unit {0}
  IsNotLent k (x ∷ lent) = (x.0 ≢ k) × IsNotLent k lent

  -- the slot k is among them, once, and holds v
  abbrev pub IsLentWith : ℕ → S → List (ℕ × S) → Type 0
  IsLentWith k v [] = ⊥
  IsLentWith k v (x ∷ lent) = ((x.0 ≡ k) × (x.1 ≡ v) × IsNotLent k lent) ⊎ ((x.0 ≢ k) × IsLentWith k v lent)

  -- the slot k lies at home and holds v
  abbrev pub LiesAtHome : ℕ → S → List (maybe.Option S) → Type 0
  LiesAtHome k v homes = get_elem? homes k ≡ some (some v)

  -- the slot k is lent to some end
  abbrev pub IsOut : ℕ → List (maybe.Option S) → Type 0
  IsOut k homes = get_elem? homes k ≡ some none

-- What a step does to the slot k, where `homes` are the slots at home before it, `lent` those that its end is lent,
-- and `a` is what the step does with them: it may take slots that lie at home, and give back what its end is lent.
pub record SlotLaw (P : Type 0) : Type 0 where
  -- what an end is lent by a step is what lay at home,
  pub taken : (k : ℕ) (v w : CellSlot P) (homes : List (maybe.Option (CellSlot P))) (lent : List (ℕ × CellSlot P)) (a : Act (CellSlot P)) → Valid homes lent a
      → LiesAtHome k v homes → IsNotLent k lent → IsLentWith k w (carried_after lent a) → w ≡ v
  -- what lies at home after the end gave its slot back is what the end had put there,
  pub given : (k : ℕ) (v : CellSlot P) (homes : List (maybe.Option (CellSlot P))) (lent : List (ℕ × CellSlot P)) (a : Act (CellSlot P)) → Valid homes lent a
      → IsOut k homes → IsLentWith k v lent → IsNotLent k (carried_after lent a) → LiesAtHome k v (homes_after homes lent a)
  -- a slot that lies at home, and that the end is not lent by the step, holds what it held,
  pub untouched : (k : ℕ) (v : CellSlot P) (homes : List (maybe.Option (CellSlot P))) (lent : List (ℕ × CellSlot P)) (a : Act (CellSlot P)) → Valid homes lent a
      → LiesAtHome k v homes → IsNotLent k lent → IsNotLent k (carried_after lent a) → LiesAtHome k v (homes_after homes lent a)
  -- and a slot that another end is lent stays out, so nobody else fills it.
  pub elsewhere : (k : ℕ) (homes : List (maybe.Option (CellSlot P))) (lent : List (ℕ × CellSlot P)) (a : Act (CellSlot P)) → Valid homes lent a
      → IsOut k homes → IsNotLent k lent → IsOut k (homes_after homes lent a) × IsNotLent k (carried_after lent a)
