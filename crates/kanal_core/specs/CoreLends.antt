-- What a core ends as, where a `&mut` into it was handed out.
use Rattle.std.specs.Prelude.{Option}
use Rattle.std.specs.Borrow.{LendsIf, Fml, RattleType, MutBor}
use Rattle.kanal_core.specs.declared.internal.outcome.Ticket.{Ticket}
use Rattle.kanal_core.specs.contracts.internal.ChannelInternal.{the_row}
use Rattle.kanal_core.specs.Channel.{ChannelView}
use Rattle.kanal_core.specs.Waiters.{with_w}

module _ (T W : RattleType) (s : MutBor (ChannelView T.Denot W.Denot)) (t : Ticket) where
  -- once the borrow r ends, the waiter with the ticket has the last W written through r
  abbrev pub core_lends_w : Option (MutBor W.Denot) → Fml
  core_lends_w r = LendsIf (the_row T W) W s r (λ w. record s.now { waiters = with_w t w s.now.waiters }) s.now
