-- What a waiter brings to the core, as contracts see it, and a waker in it that takes the place of another.
use Rattle.std.specs.Prelude.{◌≡◌, Bool, false, List, Option, Some, None, MatchOption}
use Rattle.futures.specs.declared.task.waker.Waker.{Waker}
use Rattle.kanal_cell.specs.CellEnds.{CellName}
use Rattle.kanal_core.specs.Waiters.{waiter_of, with_w}
use Rattle.kanal_core.specs.declared.internal.outcome.Ticket.{Ticket}
use Rattle.kanal_core.specs.declared.internal.outcome.Waiter.{Waiter}

-- the cell by which a wait is settled, the waker that settling will wake, and whether there is a reserved node for the entry
pub record Brought : Type 0 where
  pub cell : CellName
  pub waker : Option Waker
  pub has_node : Bool

-- the spare waker is in the waiter's handle now and the one that was there is the spare; without a spare nothing changed
abbrev pub Swaps : Option Waker → Brought → Brought → Option Waker → Type 0
Swaps None old new after = (new ≡ old) × (after ≡ None)
Swaps (Some waker) old new after = (new ≡ record old { waker = Some waker }) × (after ≡ old.waker)

module _ {T : Type 0} where
  -- the waiter with the ticket has swapped its waker for the spare, and nobody else changed; nothing did where it doesn't wait
  abbrev pub Renews : Ticket → Option Waker → List (Waiter T Brought) → List (Waiter T Brought) → Option Waker → Type 0
  Renews t spare old new after =
      MatchOption (waiter_of t old) ((new ≡ old) × (after ≡ spare))
      (λ w. (waiter : Brought) × (new ≡ with_w t waiter old) × Swaps spare w.w waiter after)

  -- the waiter with the ticket has no reserved node now: what it had was taken; nobody else changed, and nothing did where it doesn't wait
  abbrev pub TakesNode : Ticket → List (Waiter T Brought) → List (Waiter T Brought) → Bool → Type 0
  TakesNode t old new taken =
      MatchOption (waiter_of t old) ((new ≡ old) × (taken ≡ false))
      (λ w. (new ≡ with_w t (record w.w { has_node = false }) old) × (taken ≡ w.w.has_node))
