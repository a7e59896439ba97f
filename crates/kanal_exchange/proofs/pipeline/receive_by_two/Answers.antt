use Rattle.std.proofs.Common.{map}
use Rattle.kanal_exchange.proofs.Staging.{staged_made}
use Rattle.kanal_exchange.proofs.pipeline.receive_by_two.Goals as goal

pub returns : goal.returns
returns g c =
    let value = g.S.Stage.value c.args.stage.now in
    let rest = c.in_ok-made.ensures.made in
    let handed = c.in_ok-made.ensures.other.1 in
    record {
      made = staged_made value (λ messages. map (g.U.Stage.value c.args.after.now) messages) c.args.count c.in_ok-made.hears c.in_ok-made.tells c.in_ok-made.reads c.in_ok-made.made.items handed.0 rest.0 c.overseen.ensures.in_order;
      share = handed.1;
    }
