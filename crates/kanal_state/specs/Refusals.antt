-- Which refusals of a send with a deadline come only where no wait was started.
use Rattle.kanal_core.specs.declared.error.SendErrorTimeout.{SendErrorTimeout}
use Rattle.kanal_core.specs.declared.error.SendErrorTimeout.TheVariants.{Closed, ReceiveClosed, Sealed, Timeout, NoMemory, TooMany, DeadlineOutOfRange}

-- a refusal that comes only where no wait was started
abbrev pub StartedNoWait : SendErrorTimeout → Type 0
StartedNoWait Closed = ⊥
StartedNoWait ReceiveClosed = ⊥
StartedNoWait Sealed = Unit {0}
StartedNoWait Timeout = ⊥
StartedNoWait NoMemory = Unit {0}
StartedNoWait TooMany = Unit {0}
StartedNoWait DeadlineOutOfRange = Unit {0}
