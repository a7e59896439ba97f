-- What became of all the waiters that one step let go.
use Rattle.std.specs.Prelude.{List}
use Rattle.kanal_core.specs.declared.internal.leaving.Ending.{Ending}
use Rattle.kanal_core.specs.declared.internal.leaving.Ending.TheVariants.{Taken, For}
use Rattle.kanal_core.specs.declared.internal.outcome.Settled.{Settled}
use Rattle.kanal_core.specs.declared.internal.outcome.Waiter.{Waiter}
use Rattle.kanal_core.specs.Channel.{ended_by, taken_by}
use Rattle.kanal_core.specs.Sided.{AllReceive}

module _ {T W : Type 0} where
  -- how a waiter leaves with this ending
  abbrev pub settled_by : Ending → Waiter T W → Settled T W
  settled_by Taken w = taken_by w
  settled_by (For reason) w = ended_by reason w

  -- messages that were taken are with the waiters no more
  abbrev pub HaveMovedOut : Ending → List (Waiter T W) → Type 0
  HaveMovedOut Taken ws = AllReceive ws
  HaveMovedOut (For reason) ws = Unit {0}
