-- What a call with a deadline does to the pass that makes it, and by which moments of the clock.
use Rattle.std.specs.Prelude.{◌≡◌, ◌≤◌, ◌<◌, ◌+◌, ◌^◌, ℕ, ◌⊎◌, Result}
use Rattle.kanal_core.specs.declared.error.ReceiveErrorTimeout.{ReceiveErrorTimeout}
use Rattle.kanal_events.specs.declared.event.Event.{Event}
use Rattle.kanal_events.specs.declared.event.Event.TheVariants.{RecvLate}
use Rattle.kanal_state.specs.Makes.{Finishes, HasWithdrawn, IsReplied}
use Rattle.kanal_state.specs.Results.{InTime, timed_received_by}
use Rattle.kanal_state.specs.HistoryRelations.{HistoryRelations}
use Rattle.kanal_cell.specs.Deadlines.{DeadlineReached}

module _ {T P : Type 0} where
  -- the clock answered a moment that is not before the deadline, and the pass took back the wait of its call
  pub record IsTooLate (w : HistoryRelations T P) (answered : ℕ → Type 0) (deadline : ℕ) (old new : P) (event : Event T) : Type 0 where
    pub come : DeadlineReached answered deadline
    pub withdrawn : HasWithdrawn w old new event

  -- a call with this deadline: as one that may wait; or it waited, the deadline came, and the pass took the wait back
  abbrev pub FinishesBy : {R : Type 0} → HistoryRelations T P → (ℕ → Type 0) → ℕ → P → P → Event T → InTime T R → R → Type 0
  FinishesBy w answered deadline old new event answers answer =
      Finishes w old new event answers.by_reply answers.by_outcome answers.no_memory answer
      ⊎ (IsTooLate w answered deadline old new event × (answer ≡ answers.late))

  -- the clock answered a moment that is past the deadline, and the pass made a receive that looks and doesn't wait
  pub record ReceivesLate (w : HistoryRelations T P) (answered : ℕ → Type 0) (deadline : ℕ) (old new : P) (answer : Result T ReceiveErrorTimeout) : Type 0 where
    pub moment : ℕ
    pub is_answer : answered moment
    pub is_past : deadline < moment
    pub replied : IsReplied w old new RecvLate timed_received_by answer

module _ {P : Type 0} where
  -- the clock answered a moment: so long after it is the deadline, by which the call was made; or no moment is so late, and it made no call
  abbrev pub MeasuresFrom : {R : Type 0} → (ℕ → Type 0) → ℕ → (ℕ → Type 0) → P → P → R → R → Type 0
  MeasuresFrom answered duration MadeBy old new out_of_range answer =
      (moment : ℕ) × answered moment
      × (((moment + duration < 2 ^ 64) × MadeBy (moment + duration))
      ⊎ ((2 ^ 64 ≤ moment + duration) × (new ≡ old) × (answer ≡ out_of_range)))
