-- Where a stream is, and what its messages are.
use Rattle.std.specs.Prelude.{◌≡◌, ◌≢◌, ◌⊎◌, ℕ, Bool, false, List, Option, Some, Result, Err, IfSome, IsSome, IsSomeAnd, MatchOption, MatchResult, is_some}
use Rattle.kanal_core.specs.declared.error.ReceiveError.{ReceiveError}
use Rattle.kanal_core.specs.declared.error.ReceiveError.TheVariants.{SendClosed}
use Rattle.kanal_channel.specs.Batches.{ReceivesThese}
use Rattle.kanal_state.specs.Handles.{Receives}
use Rattle.kanal_state.specs.HistoryRelations.{HistoryRelations}
use Rattle.kanal_futures.specs.declared.stream.ReceiveStream.{ReceiveStream}
use Rattle.kanal_futures.specs.Futures.{call_begun, call_source, call_waits}
use Rattle.kanal_futures.specs.Tasks.{passes}

-- how a loop answers that was ended by this refusal: `Ok` where no sender is left, and else the refusal
abbrev pub EndsSo : ReceiveError → Result (Unit {0}) ReceiveError → Type 0
EndsSo error answer = MatchResult answer (λ _. error ≡ SendClosed) (λ e. (e ≡ error) × (error ≢ SendClosed))

module _ {T Hist Pass Log Prefix Internal : Type 0} where
  -- a stream that has answered that there is no more
  abbrev pub stream_is_over : ReceiveStream T Hist Pass Log Prefix Internal → Bool
  stream_is_over s = is_some s.fault

  -- the refusal that ended a stream
  abbrev pub stream_fault : ReceiveStream T Hist Pass Log Prefix Internal → Option ReceiveError
  stream_fault s = s.fault

  -- a stream with a wait of its own that was not polled to its end
  abbrev pub stream_waits : ReceiveStream T Hist Pass Log Prefix Internal → Bool
  stream_waits s = call_waits s.receiving

  -- the name of what a stream waits for
  abbrev pub stream_source : ReceiveStream T Hist Pass Log Prefix Internal → ℕ
  stream_source s = call_source s.receiving

  -- the pass of a stream's next receive, as it was before that
  abbrev pub stream_pass : ReceiveStream T Hist Pass Log Prefix Internal → Option Pass
  stream_pass s = passes (call_begun s.receiving)

module _ {T P : Type 0} where
  -- a receive by the pass that was there before has this answer, and the pass that is there after made it
  pub record HasReceived (w : HistoryRelations T P) (before after : Option P) (answer : Result T ReceiveError) : Type 0 where
    pub old : P
    pub new : P
    pub from : before ≡ Some old
    pub to : after ≡ Some new
    pub receives : Receives w old new answer

  -- by the pass that was there before these messages were received, and the pass that is there after received the last
  abbrev pub HaveReceived : HistoryRelations T P → Option P → List T → Option P → Type 0
  HaveReceived w before messages after = IfSome before (λ old. IsSomeAnd after (λ new. ReceivesThese w old messages new))

  -- a receive by the pass that was there before was refused so
  abbrev pub StreamRefused : HistoryRelations T P → Option P → Option P → Option ReceiveError → Type 0
  StreamRefused w before after fault = MatchOption fault ⊥ (λ error. HasReceived w before after (Err error))

module _ {T Hist Pass Log Prefix Internal : Type 0} where
  -- a stream that was polled and has no message: it is as it was, or it has ended now, by a receive that was refused
  abbrev pub HasNone : HistoryRelations T Pass → ReceiveStream T Hist Pass Log Prefix Internal → ReceiveStream T Hist Pass Log Prefix Internal → Type 0
  HasNone w old new =
      ((stream_fault new ≡ stream_fault old) × (stream_pass new ≡ stream_pass old))
      ⊎ ((stream_is_over old ≡ false) × (IsSome (stream_pass old) → StreamRefused w (stream_pass old) (stream_pass new) (stream_fault new)))

  -- a stream that has not ended, and the name of what it waits for
  abbrev pub WaitsAt : ReceiveStream T Hist Pass Log Prefix Internal → ℕ → Type 0
  WaitsAt s name = (stream_is_over s ≡ false) × (name ≡ stream_source s)
