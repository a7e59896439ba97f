use Rattle.kanal_channel.proofs.Answering.{answered_replied}
use Rattle.kanal_channel.proofs.shared.Shared.make.Goals as goal

pub returns-in-Ok : goal.returns-in-Ok
returns-in-Ok g c =
    let a = g.A.Operation in
    record { made = answered_replied g.H.History.relations (a.event c.args.asked) a.read a.ended c.args.pass.now c.make_fast.new.pass c.in-Ok.reply c.by.result c.in-Ok.ensures.made c.by.ensures }
