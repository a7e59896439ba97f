-- Where a future is that answers without its pass.
use Rattle.std.specs.Prelude.{ℕ, Bool, Option, Some, None, MatchOption}
use Rattle.std.specs.Option.{is_none}
use Rattle.kanal_futures.specs.declared.plain.PlainFuture.{PlainFuture}
use Rattle.kanal_futures.specs.Futures.{call_begun, call_kept, call_source}

-- the message of what a send began with
abbrev pub asked_message : {T P : Type 0} → Option (P × T) → Option T
asked_message None = None
asked_message (Some begun) = Some begun.1

-- a pass is left after an answer, and this holds of it
abbrev pub HasAnswered : {P : Type 0} → Option P → (P → Type 0) → Type 0
HasAnswered pending says = MatchOption pending ⊥ says

module _ {T Hist Asked Op Pass Log Prefix Internal Answer : Type 0} where
  -- what the pass was at first, and what is asked, of a future that has not answered
  abbrev pub asked_call : PlainFuture T Hist Asked Op Pass Log Prefix Internal Answer → Option (Pass × Asked)
  asked_call f = call_begun f.call

  -- a future that has answered
  abbrev pub is_over : PlainFuture T Hist Asked Op Pass Log Prefix Internal Answer → Bool
  is_over f = is_none (call_begun f.call)

  -- the pass of a future that has answered
  abbrev pub answered_pass : PlainFuture T Hist Asked Op Pass Log Prefix Internal Answer → Option Pass
  answered_pass f = call_kept f.call

  -- the message of a send that has not answered
  abbrev pub message_in : PlainFuture T Hist Asked Op Pass Log Prefix Internal Answer → Option Asked
  message_in f = asked_message (call_begun f.call)

  -- the name of what a future waits for
  abbrev pub future_source : PlainFuture T Hist Asked Op Pass Log Prefix Internal Answer → ℕ
  future_source f = call_source f.call
