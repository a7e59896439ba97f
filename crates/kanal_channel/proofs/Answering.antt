-- The answers of a call that waits where it must, for what it came to.
use Rattle.kanal_channel.proofs.Common.{◌≡◌, refl, inl, inr, Event, HasReplied, HistoryRelations, Reply, finishes_replied, no_memory}
use Rattle.kanal_core.specs.declared.internal.outcome.Outcome.{Outcome}
use Rattle.kanal_state.specs.Makes.{HasWaited}
use Rattle.kanal_channel.specs.Answers.{Answers}

module _ {T P O : Type 0} (w : HistoryRelations T P) (event : Event T) (read : Reply T → O) (ended : Outcome T → O) (old new : P) where
  pub answered_replied : (reply : Reply T) (answer : O) → HasReplied w old new event reply → answer ≡ read reply → Answers w event read ended old new answer
  answered_replied reply answer replied is = finishes_replied w old new event read ended (read (no_memory event)) answer reply replied refl is

  pub answered_settled : (outcome : Outcome T) (answer : O) → HasWaited w old new event outcome → answer ≡ ended outcome → Answers w event read ended old new answer
  answered_settled outcome answer waited is = inr (inl (outcome, waited, is))
