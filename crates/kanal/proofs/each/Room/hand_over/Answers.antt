use Rattle.kanal_futures.specs.Streams.{stream_pass}
use Rattle.kanal.proofs.Loops.{hands_all}
use Rattle.kanal.proofs.each.Room.hand_over.Goals as goal

pub returns-clause-handed : goal.returns-clause-handed
returns-clause-handed g c =
    hands_all g.H.History.relations g.F.FnMut tt (stream_pass c.args.stream.now) (stream_pass c.recv_ready.new.self) c.args.call.now c.hand_each.new.call c.recv_ready.new.into.items
    c.recv_ready.ensures.received c.hand_each.ensures.handed
