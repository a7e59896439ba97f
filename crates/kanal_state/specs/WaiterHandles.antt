-- That who waits was told, and that who left is kept.
use Rattle.std.specs.Prelude.{◌≡◌, ℕ, true, List, [], ◌∷◌, Option, Some}
use Rattle.kanal_cell.specs.CellEnds.{CellName, settle_cell}
use Rattle.kanal_cell.specs.declared.signal.settlement.SettleProof.{SettleProof}
use Rattle.kanal_core.specs.Waiters.{waiter_of, without}
use Rattle.kanal_core.specs.declared.internal.outcome.Outcome.{Outcome}
use Rattle.kanal_core.specs.declared.internal.outcome.Ticket.{Ticket}
use Rattle.kanal_core.specs.declared.internal.outcome.Waiter.{Waiter}
use Rattle.kanal_state.specs.Renewing.{Brought}

-- who left by notice: the cell of its wait, and the message of its entry
pub record LeftEntry (T : Type 0) : Type 0 where
  pub cell : CellName
  pub message : Option T

module _ {T : Type 0} where
  -- the cell of the waiter's handle was settled with this outcome of this ticket
  abbrev pub SettlesWaiter : SettleProof (ℕ × Outcome T) → Brought → ℕ × Outcome T → Type 0
  SettlesWaiter settlement waiter pair = (settle_cell settlement.end.value ≡ waiter.cell) × (settlement.outcome.value ≡ pair)

  -- the entry that left, as it is kept
  abbrev pub left_of : Waiter T Brought → LeftEntry T
  left_of w = record { cell = w.w.cell; message = w.message }

  -- it is kept in front of those that left before
  abbrev pub IsStored : Waiter T Brought → List (Option (LeftEntry T)) → List (Option (LeftEntry T)) → Type 0
  IsStored w before kept = kept ≡ Some (left_of w) ∷ before

  -- one of those that waited, who had brought a reserved node, has left: its entry is kept so, and the others stay as they were
  pub record HasLeft (old : List (Waiter T Brought)) (kept : Option (LeftEntry T)) (new : List (Waiter T Brought)) : Type 0 where
    pub ticket : Ticket
    pub waiter : Waiter T Brought
    pub waited : waiter_of ticket old ≡ Some waiter
    pub node : waiter.w.has_node ≡ true
    pub entry : kept ≡ Some (left_of waiter)
    pub others : new ≡ without ticket old

  -- these have left one after the other, the last of them first; all others stay as they were
  abbrev pub HaveLeft : List (Waiter T Brought) → List (Option (LeftEntry T)) → List (Waiter T Brought) → Type 0
  HaveLeft old [] new = new ≡ old
  HaveLeft old (kept ∷ before) new = (between : List (Waiter T Brought)) × HaveLeft old before between × HasLeft between kept new
