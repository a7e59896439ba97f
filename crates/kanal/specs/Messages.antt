-- What a receiver's iterator hands out, and how a loop over its messages ends.
use Rattle.std.specs.Prelude.{◌≡◌, false, List, [], ◌∷◌, Option, Result, Ok, Err, IfSome, IsSomeAnd, MatchOption, MatchResult}
use Rattle.std.specs.List.{FoldsTo}
use denote.Param.Members.{Mut, Called}
use Rattle.kanal_core.specs.declared.error.ReceiveError.{ReceiveError}
use Rattle.kanal_core.specs.declared.error.ReceiveError.TheVariants.{SendClosed}
use Rattle.kanal_state.specs.Handles.{Receives}
use Rattle.kanal_state.specs.HistoryRelations.{HistoryRelations}
use Rattle.kanal_futures.specs.declared.stream.ReceiveStream.{ReceiveStream}
use Rattle.kanal_futures.specs.Streams.{stream_is_over, stream_pass}

module _ {T P : Type 0} (w : HistoryRelations T P) where
  -- a receive was refused
  abbrev pub IsRefused : P → P → Type 0
  IsRefused old new = (error : ReceiveError) × Receives w old new (Err error)

  -- an item is a message that was received; where there is none, a receive was refused
  abbrev pub ReceivesNext : P → P → Option T → Type 0
  ReceivesNext old new item = MatchOption item (IsRefused old new) (λ message. Receives w old new (Ok message))

module _ {T F R : Type 0} (call : Mut F (T × Unit {0}) R) where
  -- each message was handed to the call, in order, which answered so
  abbrev pub CallsEach : R → F → List T → F → Type 0
  CallsEach went = FoldsTo (λ f message g. Called call f (message, tt) went g)

module _ {T P F R : Type 0} (w : HistoryRelations T P) (call : Mut F (T × Unit {0}) R) where
  -- the messages were received one after the other, the last of them first in the list, and each was handed to the call, which answered so
  abbrev pub HandsEach : R → P → F → List T → P → F → Type 0
  HandsEach went old first [] new last = (old ≡ new) × (first ≡ last)
  HandsEach went old first (message ∷ earlier) new last =
      (mid : P) × (f : F) × HandsEach went old first earlier mid f × Receives w mid new (Ok message) × Called call f (message, tt) went last

  -- some messages were received and handed to the call so
  abbrev pub HandsSome : R → P → F → P → F → Type 0
  HandsSome went old first new last = (messages : List T) × HandsEach went old first messages new last

  -- the same, by options of passes; of a pass that is gone nothing is said
  abbrev pub HandsOn : R → Option P → F → Option P → F → Type 0
  HandsOn went before first after last = IfSome before (λ old. IsSomeAnd after (λ new. HandsSome went old first new last))

  -- each message that was received was handed to the call, which answered so, and the next receive was refused with this error
  abbrev pub EndsBy : R → P → P → F → ReceiveError → Type 0
  EndsBy went old new first error =
      (messages : List T) × (mid : P) × (last : F) × HandsEach went old first messages mid last × Receives w mid new (Err error)

module _ {T P F : Type 0} (w : HistoryRelations T P) (call : Mut F (T × Unit {0}) (Unit {0})) where
  -- each message was handed to the call, until a receive was refused: since no sender is left where the loop answers `Ok`, and otherwise as it answers
  abbrev pub ReceivesAll : P → P → F → Result (Unit {0}) ReceiveError → Type 0
  ReceivesAll old new first answer = MatchResult answer (λ _. EndsBy w call tt old new first SendClosed) (λ error. EndsBy w call tt old new first error)

module _ {T P F E : Type 0} (w : HistoryRelations T P) (call : Mut F (T × Unit {0}) (Result (Unit {0}) E)) where
  -- the call answered `Ok` of each message that was received before the last, and this error of the last
  abbrev pub BreaksOff : P → P → F → E → Type 0
  BreaksOff old new first error =
      (earlier : List T) × (mid : P) × (f : F) × (message : T) × (last : F)
      × HandsEach w call (Ok tt) old first earlier mid f × Receives w mid new (Ok message) × Called call f (message, tt) (Err error) last

  -- as `ReceivesAll`, where the call answered `Ok` each time; or it broke off at an error of the call
  abbrev pub ReceivesUntil : P → P → F → Result (Result (Unit {0}) E) ReceiveError → Type 0
  ReceivesUntil old new first answer =
      MatchResult answer
      (λ ended. MatchResult ended (λ _. EndsBy w call (Ok tt) old new first SendClosed) (λ error. BreaksOff old new first error))
      (λ error. EndsBy w call (Ok tt) old new first error)

module _ {T Hist Pass Log Prefix Internal F : Type 0} (w : HistoryRelations T Pass) where
  -- as `ReceivesAll`, from where a task's loop is that has not ended; of one whose pass is gone nothing is said
  abbrev pub TaskReceivesAll : Mut F (T × Unit {0}) (Unit {0}) → ReceiveStream T Hist Pass Log Prefix Internal → F → Result (Unit {0}) ReceiveError → Type 0
  TaskReceivesAll call stream first answer =
      IfSome (stream_pass stream) (λ old. stream_is_over stream ≡ false → (new : Pass) × ReceivesAll w call old new first answer)

  -- as `ReceivesUntil`, likewise
  abbrev pub TaskReceivesUntil : {E : Type 0} → Mut F (T × Unit {0}) (Result (Unit {0}) E) → ReceiveStream T Hist Pass Log Prefix Internal → F → Result (Result (Unit {0}) E) ReceiveError → Type 0
  TaskReceivesUntil call stream first answer =
      IfSome (stream_pass stream) (λ old. stream_is_over stream ≡ false → (new : Pass) × ReceivesUntil w call old new first answer)
