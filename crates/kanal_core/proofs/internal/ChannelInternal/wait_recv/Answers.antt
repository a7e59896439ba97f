use Rattle.kanal_core.proofs.Common.{◌+◌, None, sym, subst, IsOneSided, Rises}
use Rattle.kanal_core.proofs.Stepping.{waits-recv}
use Rattle.kanal_core.proofs.Sounding.{side-wait-recv, rises-wait}
use Rattle.kanal_core.proofs.internal.ChannelInternal.wait_recv.Goals as goal

pub invariant_of-self : goal.invariant_of-self
invariant_of-self g c =
    let k = c.in-Ok.ensures.ok in
    let now = c.self.inside in
    let empty = rw (← c.self.view_is) at c.requires.empty in
    record {
      side = subst (IsOneSided now.buffer.messages now.capacity) (sym k.1) (side-wait-recv now.buffer.messages now.capacity now.waiters c.in-Ok.ticket c.args.w c.self.invariant.side empty.2);
      rises = let P = λ (ws : _). Rises 0 ws (now.next + 1) in subst P (sym k.1) (rises-wait now.waiters (record { ticket = c.in-Ok.ticket; message = None; w = c.args.w }) now.next k.0 c.self.invariant.rises);
      within = c.self.invariant.within;
      room = c.self.invariant.room;
    }

pub returns-in-Ok-clause-step : goal.returns-in-Ok-clause-step
returns-in-Ok-clause-step g c =
    let k = c.in-Ok.ensures.ok in
    let now = c.self.inside in
    rw (← c.self.view_is, k.1) (waits-recv now.capacity now.senders now.receivers now.next now.buffer.messages now.waiters c.self.invariant.side c.self.invariant.within c.in-Ok.ticket c.args.w k.0)
