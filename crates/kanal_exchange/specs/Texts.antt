-- The texts of the errors.
use Rattle.std.specs.Prelude.{ℕ, List, ◌++◌, codes}
use Rattle.kanal_core.specs.Texts.{new_error_text, receive_error_text, send_error_text}
use Rattle.kanal_exchange.specs.declared.error.ExchangeError.{ExchangeError}
use Rattle.kanal_exchange.specs.declared.error.ExchangeError.TheVariants.{New, Send, Receive, NoMemory, Stage, Task, NoThread}

-- why an exchange came to nothing
abbrev pub exchange_error_text : ExchangeError → List ℕ
exchange_error_text (New error) = codes "no channel: " ++ new_error_text error
exchange_error_text (Send error) = codes "a send was refused: " ++ send_error_text error
exchange_error_text (Receive error) = codes "a receive was refused: " ++ receive_error_text error
exchange_error_text NoMemory = codes "no memory"
exchange_error_text Stage = codes "a stage refused a message"
exchange_error_text Task = codes "the executor refused a task"
exchange_error_text NoThread = codes "no thread could be started"
