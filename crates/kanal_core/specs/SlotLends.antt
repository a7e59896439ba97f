-- What a slot ends as, where a `&mut` to its waiter's W was handed out.
use Rattle.std.specs.Borrow.{Lends, Fml, RattleType, MutBor}
use Rattle.kanal_core.specs.declared.internal.slots.Slot.{Slot}
use Rattle.kanal_core.specs.contracts.internal.slots.Slot.{the_row}

module _ (T W : RattleType) (s : MutBor (Slot T.Denot W.Denot)) where
  -- once the borrow r ends, the slot's waiter has the last W written through r
  abbrev pub lends_own_w : MutBor W.Denot → Fml
  lends_own_w r = Lends (the_row T W) W s r (λ w. record s.now { waiter = record s.now.waiter { w = w } })
