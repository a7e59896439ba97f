use Rattle.kanal_state.proofs.Exchanging.{sends_in_time_put}
use Rattle.kanal_channel.proofs.shared.Shared.send_timeout.Goals as goal

pub returns-clause-put : goal.returns-clause-put
returns-clause-put g c =
    let h = g.H.History in
    sends_in_time_put h.relations h.exchanges g.met.H.History.tells_exchanges c.args.pass.now c.send_before.new.pass (g.C.Clock.answers c.args.clock.now) _ c.args.message c.send_before.result c.send_before.ensures.sent
