use Rattle.kanal_channel.proofs.Common.{Drain, noted_settled}
use Rattle.kanal_channel.proofs.Draining.{noted_drains}
use Rattle.kanal_channel.proofs.shared.Shared.drain_into.Goals as goal

pub unlock_and_wake-requires : goal.unlock_and_wake-requires
unlock_and_wake-requires g c = record { seen = noted_settled g.H.History.relations g.met.H.History.sound c.args.pass.now c.drain-made.new.pass Drain c.drain-made.result c.drain-made.ensures.noted }

pub returns-clause-drained : goal.returns-clause-drained
returns-clause-drained g c =
    rw (c.drained_by.ensures, c.unlock_and_wake.ensures.reply, c.unlock_and_wake.ensures.same)
    (noted_drains g.H.History.relations c.args.pass.now c.drain-made.new.pass c.args.into.now.items c.drain-made.new.into.items c.drain-made.result c.drain-made.ensures.noted c.drain-made.ensures.moved)
