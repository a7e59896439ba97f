-- What the start of a wait came to that began where the pass had looked.
use Rattle.kanal_channel.proofs.Common.{◌≡◌, Result, Ok, Err, IfErr, IfOk, Event, Reply, HasReplied, HistoryRelations, AreSound, replied_on, waiting_on}
use Rattle.kanal_state.specs.declared.counted.CountedWait.{CountedWait}
use Rattle.kanal_state.specs.Waits.{IsWaiting}

module _ {T P E : Type 0} (w : HistoryRelations T P) (sound : AreSound w) (old mid new : P) (event back : Event T) (extends : w.extends old mid) (same : back ≡ event) where
  pub begun_on : (begun : Result (CountedWait × E) (Reply T)) → IfOk begun (λ b. IsWaiting w mid new back b.0) → IfOk begun (λ b. IsWaiting w old new event b.0)
  begun_on (Ok b) c = waiting_on w sound old mid new event back b.0 extends same c
  begun_on (Err reply) c = tt

  pub refused_on : (begun : Result (CountedWait × E) (Reply T)) → IfErr begun (HasReplied w mid new back) → IfErr begun (HasReplied w old new event)
  refused_on (Ok b) c = tt
  refused_on (Err reply) c = replied_on w sound old mid new event back reply extends same c
