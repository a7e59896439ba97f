-- What every step of the line has in common.
use Rattle.kanal_journal.proofs.Common.{◌≡◌, ◌+◌, ◌≤◌, false, refl, ap, arith, inl, inr, cases_Bool, Line, Handles, Event, StepSpec, is_no_memory, StepCase, Enters, enter-rest, step_case, step_found, made, has_handle, TellsWith}
use Rattle.kanal_journal.proofs.Reading.{told_by}

module _ {T : Type 0} where
  -- a step keeps the capacity, and gives one ticket at most
  pub record Regular (l : Line T) (t : StepSpec T) : Type 0 where
    pub capacity : t.line.capacity ≡ l.capacity
    pub next : t.line.next ≤ l.next + 1

  case-regular : {l : Line T} {e : Event T} {told : StepSpec T} → StepCase l e told → Regular l told
  case-regular {l} (Enters e m r s some_receiver some_sender place) =
      record { capacity = ap (λ (x : Line T). x.capacity) (enter-rest l m); next = omega (arith, ap (λ (x : Line T). x.next) (enter-rest l m)) }
  case-regular c = record { capacity = refl; next = omega arith }

  pub told-regular : (l : Line T) (handles : Handles) (e : Event T) (told : StepSpec T) → TellsWith handles l e told → Regular l told
  told-regular l handles e told is = told_by (Regular l) handles l e told is (case-regular (step_case l e)) (λ reason. record { capacity = refl; next = omega arith })

  -- what is not refused for memory doesn't say that there was none
  pub made-found : (l : Line T) (handles : Handles) (e : Event T) → is_no_memory (made handles l e).reply ≡ false
  made-found l handles e = elim (cases_Bool (has_handle handles e)) [ inl x ↦ rw x (step_found l e) | inr x ↦ rw x refl ]
