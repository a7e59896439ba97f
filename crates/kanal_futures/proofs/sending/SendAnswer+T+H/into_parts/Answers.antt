use Rattle.kanal_state.proofs.Exchanging.{sends_put}
use Rattle.kanal_futures.proofs.sending.SendAnswer+T+H.into_parts.Goals as goal

pub returns-clause-put : goal.returns-clause-put
returns-clause-put g c =
    let h = g.H.History in
    let parts = c.apart in
    sends_put h.relations h.exchanges g.met.H.History.tells_exchanges c.args.self.0 parts.result.0 c.args.self.1 parts.result.1 parts.ensures.made
