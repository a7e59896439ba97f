-- A withdrawal on the core, as the event that it is.
use Rattle.kanal_journal.proofs.Common.{◌≡◌, ℕ, ◌+◌, ◌<◌, zero, suc, false, List, [], ◌∷◌, length, get_or, None, refl, arith, Ticket, Line, found, has, Withdraw, NotWaiting, Refused, only, step, AreNumbered}

pub numbered-get : (first : ℕ) (ts : List Ticket) (next k : ℕ) (d : Ticket) → AreNumbered first ts next → k < length ts → (get_or ts k d).number ≡ first + k
numbered-get first [] next k d a h = absurd (omega arith)
numbered-get first (u ∷ ts) next zero d a h = omega (arith, a.0)
numbered-get first (u ∷ ts) next (suc k) d a h = omega (arith, numbered-get (first + 1) ts next k d a.1 (omega arith))

module _ {T : Type 0} where
  pub not-waiting-told : (old new : Line T) (n : ℕ) → found n old.line ≡ [] → has n old.demands ≡ false → new ≡ old → only new (Refused NotWaiting None) ≡ step old (Withdraw n)
  not-waiting-told old new n f h is = rw (f, h, is) refl
