use Rattle.kanal_state.proofs.Settling.{noted_settled}
use Rattle.kanal_channel.proofs.shared.Shared.call_held.Goals as goal

pub unlock_and_wake-requires : goal.unlock_and_wake-requires
unlock_and_wake-requires g c = record { seen = noted_settled g.H.History.relations g.met.H.History.sound c.args.pass.now c.call-made.new.pass c.args.event c.call-made.result c.call-made.ensures.noted }
