-- The messages of events, replies and settlements, weighed: under every weight the sums agree exactly if every message stands as often.
use Rattle.std.specs.Prelude.{ℕ, ◌+◌, List, [], ◌∷◌, Option, Some, None}
use Rattle.kanal_core.specs.declared.internal.outcome.Outcome.{Outcome}
use Rattle.kanal_core.specs.declared.internal.outcome.Outcome.TheVariants.{Taken, Given, Ended}
use Rattle.kanal_events.specs.declared.event.Event.{Event}
use Rattle.kanal_events.specs.declared.event.Event.TheVariants.{Send, TrySend}
use Rattle.kanal_events.specs.declared.event.Reply.{Reply}
use Rattle.kanal_events.specs.declared.event.Reply.TheVariants.{No, Got, Withdrawn, Refused}
use Rattle.kanal_journal.specs.declared.journal.report.Settlement.{Settlement}
use Rattle.kanal_journal.specs.declared.journal.report.Report.{Report}

-- the weights of the items, added up
abbrev pub weigh : {X : Type 0} → (X → ℕ) → List X → ℕ
weigh h [] = 0
weigh h (x ∷ xs) = h x + weigh h xs

module _ {T : Type 0} where
  -- the message that may be there
  abbrev pub option_weight : (T → ℕ) → Option T → ℕ
  option_weight h None = 0
  option_weight h (Some m) = h m

  -- the message of an event
  abbrev pub event_weight : (T → ℕ) → Event T → ℕ
  event_weight h (Send m) = h m
  event_weight h (TrySend m) = h m
  event_weight h event = 0

  -- the message in a reply
  abbrev pub reply_weight : (T → ℕ) → Reply T → ℕ
  reply_weight h (No m) = h m
  reply_weight h (Got m) = h m
  reply_weight h (Withdrawn back) = option_weight h back
  reply_weight h (Refused reason back) = option_weight h back
  reply_weight h reply = 0

  -- the message in an outcome
  abbrev pub outcome_weight : (T → ℕ) → Outcome T → ℕ
  outcome_weight h Taken = 0
  outcome_weight h (Given m) = h m
  outcome_weight h (Ended reason back) = option_weight h back

  -- the message in a settlement
  abbrev pub settlement_weight : (T → ℕ) → Settlement T → ℕ
  settlement_weight h settled = outcome_weight h settled.outcome

  -- all messages of a report
  abbrev pub report_weight : (T → ℕ) → Report T → ℕ
  report_weight h report = weigh (reply_weight h) report.replies.items + weigh (settlement_weight h) report.settled.items + weigh h report.drained.items + weigh h report.cleared.items + weigh h report.left.items
