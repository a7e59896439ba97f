-- What a receive over two streams hands out, which asks the first before the second.
use Rattle.std.specs.Prelude.{◌≡◌, ◌⊎◌, ⊤, List, [], ◌∷◌, Result, Ok, Some}
use denote.Param.Members.{Mut, Called}
use Rattle.futures.specs.declared.future.either.Either.{Either}
use Rattle.futures.specs.declared.future.either.Either.TheVariants.{Left, Right}
use Rattle.kanal_core.specs.declared.error.ReceiveError.{ReceiveError}
use Rattle.kanal_core.specs.declared.error.ReceiveError.TheVariants.{SendClosed}
use Rattle.kanal_state.specs.HistoryRelations.{HistoryRelations}
use Rattle.kanal_futures.specs.declared.prefer.Prefer.{Prefer}
use Rattle.kanal_futures.specs.declared.stream.ReceiveStream.{ReceiveStream}
use Rattle.kanal_futures.specs.Streams.{EndsSo, HasNone, HasReceived, stream_fault, stream_pass}

-- this holds where the item is one of the second
abbrev pub OfSecond : {A B : Type 0} → Either A B → Type 0 → Type 0
OfSecond (Left message) P = ⊤
OfSecond (Right message) P = P

module _ {A B HistA HistB PassA LogA PrefixA InternalA PassB LogB PrefixB InternalB : Type 0} where
  -- the stream that is asked first
  abbrev pub first_stream : Prefer A B HistA HistB PassA LogA PrefixA InternalA PassB LogB PrefixB InternalB → ReceiveStream A HistA PassA LogA PrefixA InternalA
  first_stream p = p.first

  -- the stream that is asked where the first has none
  abbrev pub second_stream : Prefer A B HistA HistB PassA LogA PrefixA InternalA PassB LogB PrefixB InternalB → ReceiveStream B HistB PassB LogB PrefixB InternalB
  second_stream p = p.second

  -- a message is a receive of its stream: of the first, where the second was left alone, or of the second, where the first was polled and had none
  abbrev pub HandsOut : HistoryRelations A PassA → HistoryRelations B PassB → Prefer A B HistA HistB PassA LogA PrefixA InternalA PassB LogB PrefixB InternalB → Prefer A B HistA HistB PassA LogA PrefixA InternalA PassB LogB PrefixB InternalB → Either A B → Type 0
  HandsOut v w old new (Left message) =
      HasReceived v (stream_pass (first_stream old)) (stream_pass (first_stream new)) (Ok message) × (second_stream new ≡ second_stream old)
  HandsOut v w old new (Right message) =
      HasReceived w (stream_pass (second_stream old)) (stream_pass (second_stream new)) (Ok message) × HasNone v (first_stream old) (first_stream new)

  -- no message came in between: each stream waits on, or has ended
  abbrev pub HaveNone : HistoryRelations A PassA → HistoryRelations B PassB → Prefer A B HistA HistB PassA LogA PrefixA InternalA PassB LogB PrefixB InternalB → Prefer A B HistA HistB PassA LogA PrefixA InternalA PassB LogB PrefixB InternalB → Type 0
  HaveNone v w old new = HasNone v (first_stream old) (first_stream new) × HasNone w (second_stream old) (second_stream new)

  -- both have ended, and a loop over them answers so: as the first's end has it, and where that is `Ok` as the second's
  abbrev pub BothEnd : Prefer A B HistA HistB PassA LogA PrefixA InternalA PassB LogB PrefixB InternalB → Result (Unit {0}) ReceiveError → Type 0
  BothEnd p answer =
      (one : ReceiveError) × (other : ReceiveError) × (stream_fault (first_stream p) ≡ Some one) × (stream_fault (second_stream p) ≡ Some other)
      × (EndsSo one answer ⊎ ((one ≡ SendClosed) × EndsSo other answer))

  module _ {F : Type 0} (v : HistoryRelations A PassA) (w : HistoryRelations B PassB) (call : Mut F (Either A B × Unit {0}) (Unit {0})) where
    -- these messages came one after the other, and each was handed to the call; then both had ended so
    abbrev pub HandsThese : Prefer A B HistA HistB PassA LogA PrefixA InternalA PassB LogB PrefixB InternalB → F → List (Either A B) → Result (Unit {0}) ReceiveError → Type 0
    HandsThese old first [] answer = (new : Prefer A B HistA HistB PassA LogA PrefixA InternalA PassB LogB PrefixB InternalB) × HaveNone v w old new × BothEnd new answer
    HandsThese old first (message ∷ later) answer =
        (mid new : Prefer A B HistA HistB PassA LogA PrefixA InternalA PassB LogB PrefixB InternalB) × (next : F) × HaveNone v w old mid × HandsOut v w mid new message × Called call first (message, tt) tt next
        × HandsThese new next later answer

    -- all messages that came were handed to the call, in their order, until both had ended so
    abbrev pub HandsAll : Prefer A B HistA HistB PassA LogA PrefixA InternalA PassB LogB PrefixB InternalB → F → Result (Unit {0}) ReceiveError → Type 0
    HandsAll old first answer = (messages : List (Either A B)) × HandsThese old first messages answer
