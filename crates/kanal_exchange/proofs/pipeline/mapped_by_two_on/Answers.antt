use Rattle.kanal_exchange.proofs.Common.{◌∙◌, by_two}
use Rattle.kanal_exchange.proofs.Staging.{made_all}
use Rattle.kanal_exchange.proofs.pipeline.mapped_by_two_on.Goals as goal

pub returns : goal.returns
returns g c =
    let sent = c.in_ok-sender.ensures.sent in
    let rest = c.in_ok-sender.ensures.other.1 in
    let messages = c.args.messages in
    record {
      mapped = made_all (by_two (g.S.Stage.value c.args.stage.now) (g.U.Stage.value c.args.after.now)) c.len-count.result c.in_ok-sender.sender c.in_ok-sender.receiver messages.items c.in_ok-sender.made.items sent.0 rest.0 c.overseen.ensures.in_order
          (c.len-count.ensures ∙ messages.ok.0);
    }
