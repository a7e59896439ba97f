-- Which error tells why an exchange ended.
use Rattle.std.specs.Prelude.{Bool, true, false, cond}
use Rattle.kanal_core.specs.declared.error.ReceiveError.TheVariants.{Closed as ReceiveClosed}
use Rattle.kanal_core.specs.declared.error.SendError.TheVariants.{Closed as SendClosed}
use Rattle.kanal_exchange.specs.declared.error.ExchangeError.{ExchangeError}
use Rattle.kanal_exchange.specs.declared.error.ExchangeError.TheVariants.{Send, Receive}

-- it tells no more than that somebody closed the channel
abbrev pub says_closed : ExchangeError → Bool
says_closed (Send SendClosed) = true
says_closed (Receive ReceiveClosed) = true
says_closed error = false

-- the one of two errors that tells why: the first, if it tells more than that somebody closed the channel
abbrev pub cause_of : ExchangeError → ExchangeError → ExchangeError
cause_of one other = cond (says_closed one) other one
