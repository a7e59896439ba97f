use Rattle.kanal_core.proofs.Sides.{rises-with}
use Rattle.kanal_core.proofs.Sounding.{side-with}
use Rattle.kanal_core.proofs.internal.ChannelInternal.waiting.Goals as goal

pub invariant_of-self-lent : goal.invariant_of-self-lent
invariant_of-self-lent g c =
    let now = c.self.inside in
    let sound = c.self.invariant in
    λ lent. (
      λ w. record {
        side = side-with c.args.ticket w now.buffer.messages now.capacity now.waiters sound.side;
        rises = rises-with c.args.ticket w 0 now.waiters now.next sound.rises;
        within = sound.within;
        room = sound.room;
      },
      sound,
    )
