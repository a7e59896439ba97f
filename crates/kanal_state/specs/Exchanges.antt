-- What calls put and got, as a history tells of it.
use Rattle.std.specs.Prelude.{List, [], ◌∷◌}
use Rattle.kanal_core.specs.declared.internal.outcome.Outcome.TheVariants.{Given, Taken}
use Rattle.kanal_events.specs.declared.event.Event.{Event}
use Rattle.kanal_events.specs.declared.event.Event.TheVariants.{Send, TrySend, Recv, RecvLate, TryRecv}
use Rattle.kanal_events.specs.declared.event.Reply.{Reply}
use Rattle.kanal_events.specs.declared.event.Reply.TheVariants.{Got, No, Nothing, Sent, Yes}
use Rattle.kanal_state.specs.Makes.{HasWaited, IsReplied}
use Rattle.kanal_state.specs.HistoryRelations.{HistoryRelations, nothing_told}

module _ {T P : Type 0} where
  -- the pass made a call of this event, with this reply
  abbrev pub Replies : HistoryRelations T P → P → P → Event T → Reply T → Type 0
  Replies w old new event reply = IsReplied w old new event (λ r. r) reply

  -- a call whose message entered put it, one that was given a message got it, whether it waited or not; the last two lists are what was put, and what was got
  pub record TellsExchanges (w : HistoryRelations T P) (exchanges : P → P → List T → List T → Type 0) : Type 0 where
    pub put_at_once : (old new : P) (m : T) → Replies w old new (Send m) Sent → exchanges old new (m ∷ []) []
    pub put_waiting : (old new : P) (m : T) → HasWaited w old new (Send m) Taken → exchanges old new (m ∷ []) []
    pub put_by_trying : (old new : P) (m : T) → Replies w old new (TrySend m) Yes → exchanges old new (m ∷ []) []
    pub put_nothing : (old new : P) (m back : T) → Replies w old new (TrySend m) (No back) → exchanges old new [] []
    pub got_at_once : (old new : P) (m : T) → Replies w old new Recv (Got m) → exchanges old new [] (m ∷ [])
    pub got_waiting : (old new : P) (m : T) → HasWaited w old new Recv (Given m) → exchanges old new [] (m ∷ [])
    pub got_late : (old new : P) (m : T) → Replies w old new RecvLate (Got m) → exchanges old new [] (m ∷ [])
    pub got_by_trying : (old new : P) (m : T) → Replies w old new TryRecv (Got m) → exchanges old new [] (m ∷ [])
    pub got_nothing : (old new : P) → Replies w old new TryRecv Nothing → exchanges old new [] []

pub nothing_exchanged : {T : Type 0} → TellsExchanges {T = T} nothing_told (λ old new put got. Unit {0})
nothing_exchanged =
    record {
      put_at_once = λ old new m r. tt;
      put_waiting = λ old new m r. tt;
      put_by_trying = λ old new m r. tt;
      put_nothing = λ old new m back r. tt;
      got_at_once = λ old new m r. tt;
      got_waiting = λ old new m r. tt;
      got_late = λ old new m r. tt;
      got_by_trying = λ old new m r. tt;
      got_nothing = λ old new r. tt;
    }
