use Rattle.std.proofs.Common.{◌∙◌}
use Rattle.kanal_exchange.proofs.Telling.{took-all}
use Rattle.kanal_exchange.proofs.tasks.from_task.Goals as goal

pub returns : goal.returns
returns g c =
    let received = c.in_ok-got.ensures.received in
    let sent = c.in_ok-got.ensures.other.1 in
    let messages = c.args.messages in
    let got = c.in_ok-got.got.items in
    record { exchanged = took-all got messages.items (c.overseen.ensures.in_order messages.items got sent.0 received.0) (received.2 ∙ (c.len-count.ensures ∙ messages.ok.0)) }
