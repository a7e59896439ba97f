-- A drain of the core, as the event that it is.
use Rattle.kanal_events.proofs.Common.{◌≡◌, ℕ, ◌==◌, List, [], ◌++◌, length, drop, sym, ap, inl, inr, cases_Bool, eqb-true, Line, messages, Moved, drain, MovesTo, Drained, StepSpec, take_line}
use Rattle.std.proofs.Math.Seq.{drop-append_seam}
use Rattle.kanal_core.specs.declared.internal.outcome.Outcome.{Outcome}

module _ {T : Type 0} where
  abbrev told : Line T → ℕ → List (ℕ × Outcome T) → List T → StepSpec T
  told line count settled drained = record { line = line; reply = Drained count; settled = settled; drained = drained; cleared = [] }

  -- what a vector gained by a drain are the messages of the line
  pub drain_told : (old new : Line T) (settled : List (ℕ × Outcome T)) (count : ℕ) (before after : List T) → (old.receivers ≡ 0 → ⊥) → MovesTo (drain old) settled new → count ≡ length old.line → after ≡ before ++ messages old.line
      → told new count settled (drop (length before) after) ≡ take_line old
  drain_told old new settled count before after there_is moves counted moved =
      elim (cases_Bool (old.receivers == 0)) [
        | inl gone ↦ absurd (there_is (eqb-true old.receivers 0 gone))
        | inr there ↦ rw (there, counted, moved, drop-append_seam before (messages old.line)) (ap (λ (m : Moved T). told m.line (length old.line) m.settled (messages old.line)) (sym moves))
      ]
