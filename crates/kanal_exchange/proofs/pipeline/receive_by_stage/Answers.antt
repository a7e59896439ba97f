use Rattle.kanal_exchange.proofs.Staging.{made_none, staged_made}
use Rattle.kanal_exchange.proofs.pipeline.receive_by_stage.Goals as goal

pub returns : goal.returns
returns g c =
    let value = g.S.Stage.value c.args.stage.now in
    let received = c.in_ok-got.ensures.received in
    let handed = c.in_ok-got.ensures.other.1 in
    let got = c.in_ok-got.got.items in
    let reads = c.in_ok-got.reads in
    let last = made_none c.args.count reads got received.0 received.2 in
    record { made = staged_made value (λ messages. messages) c.args.count c.in_ok-got.hears c.in_ok-got.tells reads got handed.0 last c.overseen.ensures.in_order; share = handed.1 }
