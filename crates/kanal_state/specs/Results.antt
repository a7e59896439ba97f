-- How replies and outcomes read as the answers of calls. A reply that an event is never given reads as Closed.
use Rattle.std.specs.Prelude.{ℕ, Bool, true, false, cond, nat_lt, Option, Some, None, Result, Ok, Err}
use Rattle.kanal_core.specs.Moves.{last_count}
use Rattle.kanal_core.specs.declared.internal.outcome.Outcome.{Outcome}
use Rattle.kanal_core.specs.declared.internal.outcome.Outcome.TheVariants.{Taken, Given, Ended}
use Rattle.kanal_core.specs.declared.internal.outcome.Reason.TheVariants.{SendClosed as BySenders, ReceiveClosed as ByReceivers}
use Rattle.kanal_core.specs.declared.error.SendError.{SendError}
use Rattle.kanal_core.specs.declared.error.SendError.TheVariants.{Closed as SendToClosed, ReceiveClosed as SendToNobody, Sealed as SendToSealed, NoMemory as SendNoMemory, TooMany as SendTooMany}
use Rattle.kanal_core.specs.declared.error.ReceiveError.{ReceiveError}
use Rattle.kanal_core.specs.declared.error.ReceiveError.TheVariants.{Closed as ReceiveFromClosed, SendClosed as ReceiveFromNobody, NoMemory as ReceiveNoMemory, TooMany as ReceiveTooMany}
use Rattle.kanal_core.specs.declared.error.SendErrorTimeout.{SendErrorTimeout}
use Rattle.kanal_core.specs.declared.error.SendErrorTimeout.TheVariants.{Closed as TimedToClosed, ReceiveClosed as TimedToNobody, Sealed as TimedToSealed, Timeout as SendTimeout, NoMemory as TimedSendNoMemory, TooMany as TimedSendTooMany}
use Rattle.kanal_core.specs.declared.error.ReceiveErrorTimeout.{ReceiveErrorTimeout}
use Rattle.kanal_core.specs.declared.error.ReceiveErrorTimeout.TheVariants.{Closed as TimedFromClosed, SendClosed as TimedFromNobody, Timeout as ReceiveTimeout, NoMemory as TimedReceiveNoMemory, TooMany as TimedReceiveTooMany}
use Rattle.kanal_core.specs.declared.error.CloseError.{CloseError}
use Rattle.kanal_core.specs.declared.error.TooMany.{TooMany as NoMore}
use Rattle.kanal_events.specs.declared.event.Refusal.{Refusal}
use Rattle.kanal_events.specs.declared.event.Refusal.TheVariants.{ReceiveClosed, Sealed, SendClosed, Timeout, NoMemory, TooMany}
use Rattle.kanal_events.specs.declared.event.Reply.{Reply}
use Rattle.kanal_events.specs.declared.event.Reply.TheVariants.{Sent, Yes, No, Got, Nothing, Drained, Done, Cleared, Flag, Number, Refused}

-- why a send is refused
abbrev pub send_error : Refusal → SendError
send_error ReceiveClosed = SendToNobody
send_error Sealed = SendToSealed
send_error NoMemory = SendNoMemory
send_error TooMany = SendTooMany
send_error reason = SendToClosed

-- why a receive is refused
abbrev pub receive_error : Refusal → ReceiveError
receive_error SendClosed = ReceiveFromNobody
receive_error NoMemory = ReceiveNoMemory
receive_error TooMany = ReceiveTooMany
receive_error reason = ReceiveFromClosed

-- why a send with a deadline is refused
abbrev pub timed_send_error : Refusal → SendErrorTimeout
timed_send_error ReceiveClosed = TimedToNobody
timed_send_error Sealed = TimedToSealed
timed_send_error NoMemory = TimedSendNoMemory
timed_send_error TooMany = TimedSendTooMany
timed_send_error reason = TimedToClosed

-- why a receive with a deadline is refused
abbrev pub timed_receive_error : Refusal → ReceiveErrorTimeout
timed_receive_error SendClosed = TimedFromNobody
timed_receive_error Timeout = ReceiveTimeout
timed_receive_error NoMemory = TimedReceiveNoMemory
timed_receive_error TooMany = TimedReceiveTooMany
timed_receive_error reason = TimedFromClosed

-- how what a call with a deadline came to reads as its answer
pub record InTime (T R : Type 0) : Type 0 where
  pub by_reply : Reply T → R
  pub by_outcome : Outcome T → R
  pub no_memory : R
  pub late : R

module _ {T : Type 0} where
  -- a send that waits where it must
  abbrev pub sent_by : Reply T → Result (Unit {0}) SendError
  sent_by Sent = Ok tt
  sent_by (Refused reason back) = Err (send_error reason)
  sent_by reply = Err SendToClosed

  -- a send that doesn't wait: whether its message entered
  abbrev pub entered_by : Reply T → Result Bool SendError
  entered_by Yes = Ok true
  entered_by (No back) = Ok false
  entered_by (Refused reason back) = Err (send_error reason)
  entered_by reply = Err SendToClosed

  -- a receive that waits where it must
  abbrev pub received_by : Reply T → Result T ReceiveError
  received_by (Got m) = Ok m
  received_by (Refused reason back) = Err (receive_error reason)
  received_by reply = Err ReceiveFromClosed

  -- a receive that doesn't wait: the message, if there was one
  abbrev pub asked_by : Reply T → Result (Option T) ReceiveError
  asked_by (Got m) = Ok (Some m)
  asked_by Nothing = Ok None
  asked_by (Refused reason back) = Err (receive_error reason)
  asked_by reply = Err ReceiveFromClosed

  -- a send with a deadline
  abbrev pub timed_sent_by : Reply T → Result (Unit {0}) SendErrorTimeout
  timed_sent_by Sent = Ok tt
  timed_sent_by (Refused reason back) = Err (timed_send_error reason)
  timed_sent_by reply = Err TimedToClosed

  -- a receive with a deadline
  abbrev pub timed_received_by : Reply T → Result T ReceiveErrorTimeout
  timed_received_by (Got m) = Ok m
  timed_received_by (Refused reason back) = Err (timed_receive_error reason)
  timed_received_by reply = Err TimedFromClosed

  -- a drain: how many messages it moved
  abbrev pub drained_by : Reply T → Result ℕ ReceiveError
  drained_by (Drained n) = Ok n
  drained_by (Refused reason back) = Err (receive_error reason)
  drained_by reply = Err ReceiveFromClosed

  -- whether a seal or a close was made
  abbrev pub closed_by : Reply T → Result (Unit {0}) CloseError
  closed_by Done = Ok tt
  closed_by (Cleared n) = Ok tt
  closed_by reply = Err record {}

  -- whether one more was counted
  abbrev pub counted_by : Reply T → Result (Unit {0}) NoMore
  counted_by Done = Ok tt
  counted_by reply = Err record {}

  -- yes or no, as it was asked
  abbrev pub flag_by : Reply T → Bool
  flag_by (Flag answer) = answer
  flag_by reply = false

  -- how many, as it was asked
  abbrev pub number_by : Reply T → ℕ
  number_by (Number answer) = answer
  number_by reply = 0

  -- how many handles, as it was asked: counts are at most the largest
  abbrev pub count_by : Reply T → ℕ
  count_by (Number answer) = cond (nat_lt answer last_count) answer last_count
  count_by reply = 0

  -- a call whose reply tells nothing more
  abbrev pub unread : Reply T → Unit {0}
  unread reply = tt

  -- the message that a reply gives back
  abbrev pub back_by : Reply T → Option T
  back_by (No back) = Some back
  back_by (Refused reason back) = back
  back_by reply = None

  -- the message that the end of a wait gives back
  abbrev pub back_after : Outcome T → Option T
  back_after (Ended reason back) = back
  back_after outcome = None

  -- what the end of a sender's wait answers
  abbrev pub sent_after : Outcome T → Result (Unit {0}) SendError
  sent_after Taken = Ok tt
  sent_after (Ended ByReceivers back) = Err SendToNobody
  sent_after outcome = Err SendToClosed

  -- what the end of a receiver's wait answers
  abbrev pub received_after : Outcome T → Result T ReceiveError
  received_after (Given m) = Ok m
  received_after (Ended BySenders back) = Err ReceiveFromNobody
  received_after outcome = Err ReceiveFromClosed

  -- what the end of a wait answers a send with a deadline
  abbrev pub timed_sent_after : Outcome T → Result (Unit {0}) SendErrorTimeout
  timed_sent_after Taken = Ok tt
  timed_sent_after (Ended ByReceivers back) = Err TimedToNobody
  timed_sent_after outcome = Err TimedToClosed

  -- what the end of a wait answers a receive with a deadline
  abbrev pub timed_received_after : Outcome T → Result T ReceiveErrorTimeout
  timed_received_after (Given m) = Ok m
  timed_received_after (Ended BySenders back) = Err TimedFromNobody
  timed_received_after outcome = Err TimedFromClosed

  -- the answers of a send with a deadline
  abbrev pub send_in_time : InTime T (Result (Unit {0}) SendErrorTimeout)
  send_in_time =
      record { by_reply = timed_sent_by; by_outcome = timed_sent_after; no_memory = Err TimedSendNoMemory; late = Err SendTimeout }

  -- the answers of a receive with a deadline
  abbrev pub receive_in_time : InTime T (Result T ReceiveErrorTimeout)
  receive_in_time =
      record { by_reply = timed_received_by; by_outcome = timed_received_after; no_memory = Err TimedReceiveNoMemory; late = Err ReceiveTimeout }
