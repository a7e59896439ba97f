use Rattle.kanal_state.proofs.Exchanging.{receives_got}
use Rattle.kanal_futures.proofs.receiving.ReceiveAnswer+T+H.into_parts.Goals as goal

pub returns-clause-got : goal.returns-clause-got
returns-clause-got g c =
    let h = g.H.History in
    let parts = c.apart in
    receives_got h.relations h.exchanges g.met.H.History.tells_exchanges c.args.self.0 parts.result.0 parts.result.1 parts.ensures.made
