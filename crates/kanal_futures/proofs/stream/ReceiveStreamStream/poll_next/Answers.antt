use Rattle.std.proofs.Common.{◌≡◌, Some, ap, subst}
use Rattle.std.specs.Option.{IfSome}
use Rattle.kanal_futures.specs.Futures.{call_begun}
use Rattle.kanal_futures.specs.Streams.{stream_pass}
use Rattle.kanal_futures.specs.Tasks.{passes}
use Rattle.kanal_futures.proofs.Answering.{received_on}
use Rattle.kanal_futures.proofs.stream.ReceiveStreamStream.poll_next.Goals as goal

pub returns-in-Ready-Some-clause-received : goal.returns-in-Ready-Some-clause-received
returns-in-Ready-Some-clause-received g c =
    let polled = c.in-Ready-Some in
    let got = polled.received in
    let took = c.take.ensures in
    let before = stream_pass c.args.self.now in
    let began = call_begun c.args.self.now.receiving in
    let from : before ≡ Some got.0 = ap passes (subst (λ r. IfSome r (λ x. began ≡ Some (x.0, x.1))) polled.field-0-is polled.ensures.begun) in
    received_on g.H.History.relations got.0 got.2 before (stream_pass c.take.new.self) c.take.result from took.pass took.received
