use Rattle.kanal_state.proofs.Exchanging.{tries_put}
use Rattle.kanal_channel.proofs.shared.Shared.try_send.Goals as goal

pub returns-clause-put : goal.returns-clause-put
returns-clause-put g c =
    let h = g.H.History in
    tries_put h.relations h.exchanges g.met.H.History.tells_exchanges c.args.pass.now c.offer.new.pass c.args.message c.offer.result c.offer.ensures.sent
