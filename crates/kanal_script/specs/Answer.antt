-- How a script's answer is written.
use Rattle.std.specs.Prelude.{◌==◌, ℕ, Bool, true, false, ◌+◌, List, [], ◌∷◌, ◌++◌, take, drop, Option, Some, None, codes, decimal}
use Rattle.std.specs.List.{prefix_len}
use Rattle.kanal_core.specs.declared.internal.outcome.Reason.{Reason}
use Rattle.kanal_core.specs.declared.internal.outcome.Reason.TheVariants.{Closed as ByClose, SendClosed as BySenders, ReceiveClosed as ByReceivers}
use Rattle.kanal_core.specs.declared.internal.outcome.Outcome.{Outcome}
use Rattle.kanal_core.specs.declared.internal.outcome.Outcome.TheVariants.{Taken, Given, Ended}
use Rattle.kanal_events.specs.declared.event.Refusal.{Refusal}
use Rattle.kanal_events.specs.declared.event.Refusal.TheVariants.{Closed, ReceiveClosed, Sealed, SendClosed, Timeout, NoMemory, TooMany, CloseError, NoHandle, NotWaiting}
use Rattle.kanal_events.specs.declared.event.Reply.{Reply}
use Rattle.kanal_events.specs.declared.event.Reply.TheVariants.{Sent, Waits, Yes, No, Got, Nothing, Drained, Withdrawn, Done, Cleared, Number, Flag, Refused}
use Rattle.kanal_journal.specs.declared.journal.report.Settlement.{Settlement}
use Rattle.kanal_journal.specs.declared.journal.report.Report.{Report}
use Rattle.kanal_script.specs.Script.{line}

-- the name of a refusal
abbrev pub refusal_name : Refusal → List ℕ
refusal_name Closed = codes "Closed"
refusal_name ReceiveClosed = codes "ReceiveClosed"
refusal_name Sealed = codes "Sealed"
refusal_name SendClosed = codes "SendClosed"
refusal_name Timeout = codes "Timeout"
refusal_name NoMemory = codes "NoMemory"
refusal_name TooMany = codes "TooMany"
refusal_name CloseError = codes "CloseError"
refusal_name NoHandle = codes "NoHandle"
refusal_name NotWaiting = codes "NotWaiting"

-- the name of the reason for which a wait ended
abbrev pub reason_name : Reason → List ℕ
reason_name ByClose = codes "Closed"
reason_name BySenders = codes "SendClosed"
reason_name ByReceivers = codes "ReceiveClosed"

-- a message behind a space, if there is one
abbrev pub back_text : Option ℕ → List ℕ
back_text None = []
back_text (Some message) = 32 ∷ decimal message

-- the messages, each behind a space
abbrev pub messages_text : List ℕ → List ℕ
messages_text [] = []
messages_text (message ∷ messages) = (32 ∷ decimal message) ++ messages_text messages

-- a yes or a no
abbrev pub flag_word : Bool → List ℕ
flag_word true = codes "true"
flag_word false = codes "false"

-- a reply's words; a count is followed by the messages that it counts
abbrev pub reply_words : Reply ℕ → List ℕ → List ℕ
reply_words Sent counted = codes "sent"
reply_words (Waits ticket) counted = codes "waits " ++ decimal ticket
reply_words Yes counted = codes "yes"
reply_words (No message) counted = codes "no " ++ decimal message
reply_words (Got message) counted = codes "got " ++ decimal message
reply_words Nothing counted = codes "nothing"
reply_words (Drained count) counted = codes "drained " ++ (decimal count ++ messages_text counted)
reply_words (Withdrawn back) counted = codes "withdrawn" ++ back_text back
reply_words Done counted = codes "done"
reply_words (Cleared count) counted = codes "cleared " ++ (decimal count ++ messages_text counted)
reply_words (Number number) counted = decimal number
reply_words (Flag flag) counted = flag_word flag
reply_words (Refused refusal back) counted = codes "refused " ++ (refusal_name refusal ++ back_text back)

-- how many of the drained messages a reply counts
abbrev pub drained_count : Reply ℕ → ℕ
drained_count (Drained count) = count
drained_count reply = 0

-- how many of the cleared messages a reply counts
abbrev pub cleared_count : Reply ℕ → ℕ
cleared_count (Cleared count) = count
cleared_count reply = 0

-- the messages that a reply counts
abbrev pub counted : Reply ℕ → List ℕ → List ℕ → List ℕ
counted (Drained count) drained cleared = take count drained
counted (Cleared count) drained cleared = take count cleared
counted reply drained cleared = []

-- what became of a wait
abbrev pub outcome_words : Outcome ℕ → List ℕ
outcome_words Taken = codes "taken"
outcome_words (Given message) = codes "given " ++ decimal message
outcome_words (Ended reason back) = codes "ended " ++ (reason_name reason ++ back_text back)

-- a settlement's words
abbrev pub settlement_words : Settlement ℕ → List ℕ
settlement_words settlement = codes "ticket " ++ (decimal settlement.ticket ++ (32 ∷ outcome_words settlement.outcome))

-- the settlements' lines
abbrev pub settlements_text : List (Settlement ℕ) → List ℕ
settlements_text [] = []
settlements_text (settlement ∷ settled) = line (settlement_words settlement) ++ settlements_text settled

-- how many settlements in front are the step's
abbrev pub count_settled : ℕ → List (Settlement ℕ) → ℕ
count_settled step settled = prefix_len (λ s. s.step == step) settled

-- from the step on: each reply's line with the messages that it counts, and then its settlements' lines
abbrev pub replies_text : ℕ → List (Reply ℕ) → List ℕ → List ℕ → List (Settlement ℕ) → List ℕ
replies_text step [] drained cleared settled = []
replies_text step (reply ∷ replies) drained cleared settled =
    line (reply_words reply (counted reply drained cleared))
    ++ (settlements_text (take (count_settled step settled) settled)
    ++ replies_text (step + 1) replies (drop (drained_count reply) drained) (drop (cleared_count reply) cleared) (drop (count_settled step settled) settled))

-- a report, printed
abbrev pub report_text : Report ℕ → List ℕ
report_text report = replies_text 0 report.replies.items report.drained.items report.cleared.items report.settled.items

-- what is printed of a channel that can't be so large
abbrev pub too_large_text : List ℕ
too_large_text = line (codes "refused TooLarge")
