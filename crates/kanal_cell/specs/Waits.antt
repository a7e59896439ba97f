-- At which end of a cell a blocked call waits.
use Rattle.kanal_cell.specs.declared.signal.WaitEnd.{WaitEnd}
use Rattle.kanal_cell.specs.declared.backoff.Waiting.{Waiting}
use Rattle.kanal_cell.specs.declared.backoff.Watch.{Watch}
use Rattle.kanal_cell.specs.declared.backoff.Watch.TheVariants.{Awake, Asleep}

-- the end at which it looks, whether it sleeps or not
abbrev pub end_at : {P : Type 0} → Watch P → WaitEnd P
end_at (Awake waiter) = waiter.end
end_at (Asleep waiter) = waiter.end

-- the end at which a blocked call waits
abbrev pub waits_at : {P : Type 0} → Waiting P → WaitEnd P
waits_at waiting = end_at waiting.watch
