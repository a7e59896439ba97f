-- The counts of both sides along a list of events.
use Rattle.kanal_journal.proofs.Common.{◌≡◌, ℕ, List, [], ◌∷◌, refl, ap, ◌∙◌, Reason, Line, Handles, Event, StepSpec, StepCase, Enters, Recounts, EndsAll, LastCase, LastTx, LastRx, Seals, Closes, count-zero, enter-rest, step_case, Account, TellsWith, Leads}
use Rattle.kanal_journal.proofs.Reading.{told_by}
use Rattle.kanal_journal.proofs.Regular.{told-regular}

module _ {T : Type 0} where
  -- a count that is 0 stays 0
  abbrev pub StaysZero : Line T → Line T → Type 0
  StaysZero old new = (old.senders ≡ 0 → new.senders ≡ 0) × (old.receivers ≡ 0 → new.receivers ≡ 0)

  last-zero : {l : Line T} {e : Event T} {senders receivers : ℕ} {reason : Reason} → LastCase l e senders receivers reason → (l.senders ≡ 0 → senders ≡ 0) × (l.receivers ≡ 0 → receivers ≡ 0)
  last-zero (LastTx one) = (λ z. refl, λ z. z)
  last-zero (LastRx one) = (λ z. z, λ z. refl)

  case-zero : {l : Line T} {e : Event T} {told : StepSpec T} → StepCase l e told → StaysZero l told.line
  case-zero {l} (Enters e m r s some_receiver some_sender place) =
      (λ z. ap (λ (x : Line T). x.senders) (enter-rest l m) ∙ z, λ z. ap (λ (x : Line T). x.receivers) (enter-rest l m) ∙ z)
  case-zero (Recounts e senders receivers c) = count-zero c
  case-zero (EndsAll e senders receivers reason c) = last-zero c
  case-zero (Seals some_sender) = (λ z. refl, λ z. z)
  case-zero (Closes left) = (λ z. refl, λ z. refl)
  case-zero c = (λ z. z, λ z. z)

  -- each event keeps it
  pub told-zero : (l : Line T) (hs : Handles) (e : Event T) (told : StepSpec T) → TellsWith hs l e told → StaysZero l told.line
  told-zero l hs e told is = told_by (λ t. StaysZero l t.line) hs l e told is (case-zero (step_case l e)) (λ reason. (λ z. z, λ z. z))

  -- a count that is 0 stays 0 along every list of events
  pub zero-along : (a b : Account T) (events : List (Event T)) → Leads a events b → StaysZero a.line b.line
  zero-along a b [] l = rw l (λ z. z, λ z. z)
  zero-along a b (e ∷ es) l =
      let told = l.1.0 in
      let first : StaysZero a.line told.line = told-zero a.line a.handles e told l.1.1 in
      let mid : StaysZero a.line l.0.line = rw l.1.2 first in
      let rest = zero-along l.0 b es l.2 in
      (λ z. rest.0 (mid.0 z), λ z. rest.1 (mid.1 z))

  -- the capacity stays
  pub capacity-along : (a b : Account T) (events : List (Event T)) → Leads a events b → b.line.capacity ≡ a.line.capacity
  capacity-along a b [] l = ap (λ x. x.line.capacity) l
  capacity-along a b (e ∷ es) l = capacity-along l.0 b es l.2 ∙ (ap (λ x. x.line.capacity) l.1.2 ∙ (told-regular a.line a.handles e l.1.0 l.1.1).capacity)
