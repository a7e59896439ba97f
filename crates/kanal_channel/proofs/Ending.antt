-- A call that waits until a deadline: how its wait ends, and what it answers.
use Rattle.kanal_channel.proofs.Common.{◌≡◌, ◌∙◌, ℕ, refl, sym, inl, inr, Option, Event, Waits, no_memory, IsReplied, InTime, FinishesBy, HistoryRelations, IsLate, finishes_replied, has_waited}
use Rattle.kanal_channel.specs.declared.blocking.WaitOutcome.{WaitOutcome}
use Rattle.kanal_channel.specs.declared.blocking.WaitOutcome.TheVariants.{Replied, Settled, Withdrawn}
use Rattle.kanal_channel.specs.Deadlines.{GivesBack, WithdrawPost, answer_in_time, back_in_time}
use Rattle.kanal_channel.specs.Starts.{BlockingPost}

module _ {T P : Type 0} (w : HistoryRelations T P) (late : Type 0) (old mid new : P) (event : Event T) (ticket : ℕ) (come : late) (waits : IsReplied w old mid event (λ reply. reply) (Waits ticket)) where
  -- a call whose wait was to be taken back, since the deadline has come
  pub ended_passed : (came : WaitOutcome T) → WithdrawPost w mid new ticket came → BlockingPost w late old new event came
  ended_passed (Settled outcome) e = has_waited w old mid new event ticket outcome waits e.0 e.1
  ended_passed (Withdrawn back) e = (
    come,
    record {
      ticket = ticket;
      mid = mid;
      back = back;
      waits = waits;
      withdraws = record { call = _; made = e.0; asked = refl; reads = refl; told = e.1 };
    },
    refl,
  )
  ended_passed (Replied reply) e = absurd e

module _ {T P : Type 0} (w : HistoryRelations T P) (answered : ℕ → Type 0) (deadline : ℕ) where
  -- the answer of a call with a deadline, for what it came to
  pub finishes_by : {R : Type 0} (old new : P) (event : Event T) (answers : InTime T R) (came : WaitOutcome T) (answer : R)
      → BlockingPost w (IsLate answered deadline) old new event came → answers.by_reply (no_memory event) ≡ answers.no_memory → answer ≡ answer_in_time answers came
      → FinishesBy w answered deadline old new event answers answer
  finishes_by old new event answers (Replied reply) answer c none is =
      inl (finishes_replied w old new event answers.by_reply answers.by_outcome answers.no_memory answer reply c none is)
  finishes_by old new event answers (Settled outcome) answer c none is = inl (inr (inl (outcome, c, is)))
  finishes_by old new event answers (Withdrawn back) answer c none is = inr (record { come = c.0; withdrawn = c.1 }, is)

module _ {T P : Type 0} (w : HistoryRelations T P) (late : Type 0) (old new : P) (event : Event T) where
  -- what a call with a deadline gives back, for what it came to
  pub gives_back : (came : WaitOutcome T) (back : Option T) → BlockingPost w late old new event came → back ≡ back_in_time came → GivesBack w old new event back
  gives_back (Replied reply) back c is = inl (reply, c, is)
  gives_back (Settled outcome) back c is = inr (inl (outcome, c, is))
  gives_back (Withdrawn message) back c is = inr (inr (c.1, is ∙ sym c.2))
