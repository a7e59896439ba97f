use Rattle.kanal_channel.proofs.Common.{settled_of, all_shown}
use Rattle.kanal_channel.proofs.shared.Shared.settle.Goals as goal

pub hand_out-reply-requires : goal.hand_out-reply-requires
hand_out-reply-requires g c =
    let seen = all_shown g.H.History.relations g.H.History.shows c.args.pass.now c.prefix-prefix.result c.prefix-prefix.ensures.settled (settled_of c.args.made) c.requires.seen in
    record { seen = rw c.open.ensures seen }
