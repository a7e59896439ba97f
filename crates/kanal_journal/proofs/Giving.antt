-- The tickets that were given, and who waits with them.
use Rattle.kanal_journal.proofs.Common.{◌≡◌, ℕ, ◌<◌, zero, suc, List, [], ◌∷◌, ◌++◌, length, slice_get, get_or, Some, refl, sym, ap, subst, ◌∙◌, arith, Ticket, ChannelView, AreKept, GivesNone, GivesOne, AreGiven}
use Rattle.kanal_core.specs.declared.internal.outcome.Waiter.{Waiter}
use Rattle.kanal_core.specs.Waiters.{IsPlaced}
use Rattle.kanal_journal.proofs.Numbering.{numbered-count, numbered-last}

-- a look-up with a default, within the list
pub looked-up : (ts : List Ticket) (k : ℕ) (d : Ticket) → k < length ts → slice_get ts k ≡ Some (get_or ts k d)
looked-up [] k d h = absurd (omega (arith, h))
looked-up (t ∷ ts) zero d h = refl
looked-up (t ∷ ts) (suc k) d h = looked-up ts k d (omega (arith, h))

by_some : {a b : Ticket} → Some a ≡ Some b → a ≡ b
by_some e = cc

module _ {T W : Type 0} where
  -- one who begins to wait does so under the ticket that is given last
  pub gives-one : (ts : List Ticket) (old new : ChannelView T W) (t : Ticket) → AreGiven ts old → GivesOne t old new → AreGiven (ts ++ t ∷ []) new
  gives-one ts old new t given one =
      record {
        numbered = rw one.next (numbered-last 0 ts t old.next one.number given.numbered);
        kept = one.kept ts (omega (arith, numbered-count 0 ts old.next given.numbered)) given.kept;
      }

  -- where no ticket is given, those that were are still all
  pub still_given : (ts : List Ticket) (old new : ChannelView T W) → AreGiven ts old → GivesNone old new → AreGiven ts new
  still_given ts old new given none = record { numbered = rw none.next given.numbered; kept = none.kept ts given.kept }

  -- a ticket that was given stands at its number, so nobody else waits under it
  pub placed : (ts : List Ticket) (t : Ticket) (ws : List (Waiter T W)) → slice_get ts t.number ≡ Some t → AreKept ts ws → IsPlaced t ws
  placed ts t [] there k = tt
  placed ts t (w ∷ ws) there k = (
    λ n. ap (λ (x : Ticket). x.place) (by_some (sym (subst (λ i. slice_get ts i ≡ Some w.ticket) n k.0) ∙ there)),
    placed ts t ws there k.1,
  )
