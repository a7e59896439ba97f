use Rattle.kanal_channel.proofs.Common.{TryRecv, noted_settled}
use Rattle.kanal_channel.proofs.shared.Shared.try_recv_realtime.Goals as goal

pub unlock_tried-requires : goal.unlock_tried-requires
unlock_tried-requires g c = record { seen = noted_settled g.H.History.relations g.met.H.History.sound c.args.pass.now c.call-made.new.pass TryRecv c.call-made.result c.call-made.ensures.noted }
