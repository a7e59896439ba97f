-- What slots end as, where a `&mut` into one of them was handed out.
use Rattle.std.specs.Prelude.{ℕ, Option}
use Rattle.std.specs.Borrow.{Lends, LendsIf, Fml, RattleType, MutBor}
use Rattle.slab.specs.Slab.{with_value, get}
use Rattle.kanal_core.specs.Links.{put_w}
use Rattle.kanal_core.specs.declared.internal.slots.Slot.{Slot}
use Rattle.kanal_core.specs.declared.internal.slots.Slots.{Slots}
use Rattle.kanal_core.specs.contracts.internal.slots.Slots.{the_row}
use Rattle.kanal_core.specs.contracts.internal.slots.Slot as slot

module _ (T W : RattleType) (s : MutBor (Slots T.Denot W.Denot)) (place : ℕ) where
  -- once the borrow r ends, the place has the last slot written through r, and at `None` nothing changes
  abbrev pub lends_slot : Option (MutBor (Slot T.Denot W.Denot)) → Fml
  lends_slot r = LendsIf (the_row T W) (slot.the_row T W) s r (λ w. record s.now { slab = with_value s.now.slab place w }) s.now

  -- once the borrow r ends, the waiter at the place has the last W written through r
  abbrev pub slots_lends_w : MutBor W.Denot → Fml
  slots_lends_w r = Lends (the_row T W) W s r (λ w. record s.now { slab = put_w s.now.slab place (get s.now.slab place) w })
