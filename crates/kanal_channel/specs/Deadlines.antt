-- What a call with a deadline came to.
use Rattle.std.specs.Prelude.{◌≡◌, ℕ, ◌⊎◌, Option}
use Rattle.kanal_core.specs.declared.internal.outcome.Outcome.{Outcome}
use Rattle.kanal_events.specs.declared.event.Event.{Event}
use Rattle.kanal_events.specs.declared.event.Reply.{Reply}
use Rattle.kanal_state.specs.Calls.{IsTold}
use Rattle.kanal_state.specs.Entries.{withdrawal}
use Rattle.kanal_state.specs.Makes.{HasReplied, HasWaited, HasWithdrawn}
use Rattle.kanal_state.specs.Results.{InTime, back_after, back_by}
use Rattle.kanal_state.specs.HistoryRelations.{HistoryRelations}
use Rattle.kanal_channel.specs.declared.blocking.WaitOutcome.{WaitOutcome}
use Rattle.kanal_channel.specs.declared.blocking.WaitOutcome.TheVariants.{Replied, Settled, Withdrawn}

module _ {T : Type 0} where
  -- the answer of a call with a deadline, for what it came to
  abbrev pub answer_in_time : {R : Type 0} → InTime T R → WaitOutcome T → R
  answer_in_time answers (Replied reply) = answers.by_reply reply
  answer_in_time answers (Settled outcome) = answers.by_outcome outcome
  answer_in_time answers (Withdrawn back) = answers.late

  -- the message that a send with a deadline gives back, for what it came to
  abbrev pub back_in_time : WaitOutcome T → Option T
  back_in_time (Replied reply) = back_by reply
  back_in_time (Settled outcome) = back_after outcome
  back_in_time (Withdrawn back) = back

module _ {T P : Type 0} where
  -- how a wait ended that was to be taken back: it was settled and the pass has learnt of that, or the pass took it back
  abbrev pub WithdrawPost : HistoryRelations T P → P → P → ℕ → WaitOutcome T → Type 0
  WithdrawPost w old new ticket (Settled outcome) = w.extends old new × w.saw_settled new (ticket, outcome)
  WithdrawPost w old new ticket (Withdrawn back) = w.appends old new (withdrawal ticket back) × IsTold (withdrawal ticket back)
  WithdrawPost w old new ticket (Replied reply) = ⊥

  -- what a call with a deadline gives back: what its reply brought, or the end of its wait, or its withdrawal
  abbrev pub GivesBack : HistoryRelations T P → P → P → Event T → Option T → Type 0
  GivesBack w old new event back =
      ((reply : Reply T) × HasReplied w old new event reply × (back ≡ back_by reply))
      ⊎ ((outcome : Outcome T) × HasWaited w old new event outcome × (back ≡ back_after outcome))
      ⊎ ((taken : HasWithdrawn w old new event) × (back ≡ taken.back))
