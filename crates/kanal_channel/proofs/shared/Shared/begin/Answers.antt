use Rattle.kanal_channel.proofs.Starting.{begun_on, refused_on}
use Rattle.kanal_channel.proofs.shared.Shared.begin.Goals as goal

pub returns-clause-begun : goal.returns-clause-begun
returns-clause-begun g c =
    let started = c.in_ok-locked.ensures in
    begun_on g.H.History.relations g.met.H.History.sound c.args.pass.now c.start.new.pass c.wait.new.pass c.args.event c.in_ok-locked.event started.extends started.back c.wait.result c.wait.ensures.waiting

pub returns-clause-replied : goal.returns-clause-replied
returns-clause-replied g c =
    let started = c.in_ok-locked.ensures in
    refused_on g.H.History.relations g.met.H.History.sound c.args.pass.now c.start.new.pass c.wait.new.pass c.args.event c.in_ok-locked.event started.extends started.back c.wait.result c.wait.ensures.replied
