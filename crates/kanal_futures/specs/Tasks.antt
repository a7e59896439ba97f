-- Where a call in a task is, what it began with, and what is left of a poll.
use Rattle.std.specs.Prelude.{◌≡◌, ℕ, Bool, true, false, Option, Some, None}
use Rattle.kanal_futures.specs.declared.answer.GhostStart.{GhostStart}
use Rattle.kanal_futures.specs.declared.progress.Progress.{Progress}
use Rattle.kanal_futures.specs.declared.progress.Progress.TheVariants.{Zero, Waiting, Done}
use Rattle.kanal_futures.specs.declared.progress.PollRest.{PollRest}
use Rattle.kanal_futures.specs.declared.progress.PollRest.TheVariants.{Held, Refused, Begun}
use Rattle.kanal_futures.specs.declared.wakers.Wakers.{Wakers}

-- the pass as it was, and what was asked
abbrev pub started_with : {P M : Type 0} → GhostStart P M → P × M
started_with opening = (opening.pass.value, opening.asked.value)

-- what the pass was at first
abbrev pub passes : {P M : Type 0} → Option (P × M) → Option P
passes None = None
passes (Some begun) = Some begun.0

-- the name of what a task waits for
abbrev pub source_of : Wakers → ℕ
source_of wakers = wakers.source.id

module _ {T Hist Asked Op Pass Log Prefix Internal Answer : Type 0} where
  -- what the pass was at first, and what was asked, of a call that has not answered
  abbrev pub begun_by : Progress T Hist Asked Op Pass Log Prefix Internal Answer → Option (Pass × Asked)
  begun_by (Zero pass asked) = Some (pass, asked)
  begun_by (Waiting started) = Some started
  begun_by (Done kept) = None

  -- there is a wait that has to be counted out
  abbrev pub is_waiting : Progress T Hist Asked Op Pass Log Prefix Internal Answer → Bool
  is_waiting (Zero pass asked) = false
  is_waiting (Waiting started) = true
  is_waiting (Done kept) = false

  -- there is a call that was not made yet
  abbrev pub is_fresh : Progress T Hist Asked Op Pass Log Prefix Internal Answer → Bool
  is_fresh (Zero pass asked) = true
  is_fresh (Waiting started) = false
  is_fresh (Done kept) = false

  -- the pass of a call that has answered, where it is kept
  abbrev pub answered_by : Progress T Hist Asked Op Pass Log Prefix Internal Answer → Option Pass
  answered_by (Zero pass asked) = None
  answered_by (Waiting started) = None
  answered_by (Done kept) = kept

  -- what a call began with of whose poll this is left, beside where its future is
  abbrev pub begun_with : PollRest T Hist Asked Pass Log Prefix Internal → Progress T Hist Asked Op Pass Log Prefix Internal Answer → Option (Pass × Asked)
  begun_with (Held locked pass asked) state = Some (pass, asked)
  begun_with (Refused pass asked) state = Some (pass, asked)
  begun_with Begun state = begun_by state

  -- a call that was taken out is in the rest alone, and one that was not taken out was made
  abbrev pub RestMatches : PollRest T Hist Asked Pass Log Prefix Internal → Progress T Hist Asked Op Pass Log Prefix Internal Answer → Type 0
  RestMatches (Held locked pass asked) state = begun_by state ≡ None
  RestMatches (Refused pass asked) state = begun_by state ≡ None
  RestMatches Begun state = is_fresh state ≡ false
