use Rattle.kanal_channel.proofs.Answering.{answered_replied}
use Rattle.kanal_channel.proofs.shared.Shared.make_held.Goals as goal

pub returns-in-Replied : goal.returns-in-Replied
returns-in-Replied g c =
    let a = g.A.Operation in
    record { made = answered_replied g.H.History.relations (a.event c.args.asked) a.read a.ended c.args.pass.now c.make_waiting.new.pass c.in-Replied.reply c.by.result c.in-Replied.ensures.come c.by.ensures }
