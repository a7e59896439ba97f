-- The texts of the errors.
use Rattle.std.specs.Prelude.{ℕ, List, codes}
use Rattle.kanal_core.specs.declared.error.NewError.{NewError}
use Rattle.kanal_core.specs.declared.error.NewError.TheVariants.{TooLarge, NoMemory}
use Rattle.kanal_core.specs.declared.error.CloseError.{CloseError}
use Rattle.kanal_core.specs.declared.error.TooMany.{TooMany}
use Rattle.kanal_core.specs.declared.error.SendError.{SendError}
use Rattle.kanal_core.specs.declared.error.SendError.TheVariants.{Closed as SendClosed, ReceiveClosed as SendReceiveClosed, Sealed as SendSealed, NoMemory as SendNoMemory, TooMany as SendTooMany, Finished as SendFinished}
use Rattle.kanal_core.specs.declared.error.SendErrorTimeout.{SendErrorTimeout}
use Rattle.kanal_core.specs.declared.error.SendErrorTimeout.TheVariants.{Closed as SendTimedClosed, ReceiveClosed as SendTimedReceiveClosed, Sealed as SendTimedSealed, Timeout as SendTimedTimeout, NoMemory as SendTimedNoMemory, TooMany as SendTimedTooMany, DeadlineOutOfRange as SendTimedDeadlineOutOfRange}
use Rattle.kanal_core.specs.declared.error.ReceiveError.{ReceiveError}
use Rattle.kanal_core.specs.declared.error.ReceiveError.TheVariants.{Closed as ReceiveClosed, SendClosed as ReceiveSendClosed, NoMemory as ReceiveNoMemory, TooMany as ReceiveTooMany, Finished as ReceiveFinished}
use Rattle.kanal_core.specs.declared.error.ReceiveErrorTimeout.{ReceiveErrorTimeout}
use Rattle.kanal_core.specs.declared.error.ReceiveErrorTimeout.TheVariants.{Closed as ReceiveTimedClosed, SendClosed as ReceiveTimedSendClosed, Timeout as ReceiveTimedTimeout, NoMemory as ReceiveTimedNoMemory, TooMany as ReceiveTimedTooMany, DeadlineOutOfRange as ReceiveTimedDeadlineOutOfRange}

-- why a channel could not be made
abbrev pub new_error_text : NewError → List ℕ
new_error_text TooLarge = codes "capacity too large"
new_error_text NoMemory = codes "no memory"

-- why a close was refused
abbrev pub close_error_text : CloseError → List ℕ
close_error_text e = codes "channel is already closed"

-- why there can't be one more
abbrev pub too_many_text : TooMany → List ℕ
too_many_text e = codes "too many"

-- why a send failed
abbrev pub send_error_text : SendError → List ℕ
send_error_text SendClosed = codes "send to a closed channel"
send_error_text SendReceiveClosed = codes "send to a half closed channel"
send_error_text SendSealed = codes "send to a sealed channel"
send_error_text SendNoMemory = codes "no memory"
send_error_text SendTooMany = codes "too many"
send_error_text SendFinished = codes "already finished"

-- why a send by a deadline failed
abbrev pub send_error_timeout_text : SendErrorTimeout → List ℕ
send_error_timeout_text SendTimedClosed = codes "send to a closed channel"
send_error_timeout_text SendTimedReceiveClosed = codes "send to a half closed channel"
send_error_timeout_text SendTimedSealed = codes "send to a sealed channel"
send_error_timeout_text SendTimedTimeout = codes "send timeout"
send_error_timeout_text SendTimedNoMemory = codes "no memory"
send_error_timeout_text SendTimedTooMany = codes "too many"
send_error_timeout_text SendTimedDeadlineOutOfRange = codes "deadline out of range"

-- why a receive failed
abbrev pub receive_error_text : ReceiveError → List ℕ
receive_error_text ReceiveClosed = codes "receive from a closed channel"
receive_error_text ReceiveSendClosed = codes "receive from a half closed channel"
receive_error_text ReceiveNoMemory = codes "no memory"
receive_error_text ReceiveTooMany = codes "too many"
receive_error_text ReceiveFinished = codes "already finished"

-- why a receive by a deadline failed
abbrev pub receive_error_timeout_text : ReceiveErrorTimeout → List ℕ
receive_error_timeout_text ReceiveTimedClosed = codes "receive from a closed channel"
receive_error_timeout_text ReceiveTimedSendClosed = codes "receive from a half closed channel"
receive_error_timeout_text ReceiveTimedTimeout = codes "receive timeout"
receive_error_timeout_text ReceiveTimedNoMemory = codes "no memory"
receive_error_timeout_text ReceiveTimedTooMany = codes "too many"
receive_error_timeout_text ReceiveTimedDeadlineOutOfRange = codes "deadline out of range"
