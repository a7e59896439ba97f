use Rattle.kanal_channel.proofs.Common.{◌<◌, ◌^◌, refl, inl, subst, Recv, ReceivesBy, ReceivesInTime, receives_in_time_got, receive_in_time}
use Rattle.std.specs.Duration.{as_nanos}
use Rattle.kanal_channel.proofs.Ending.{finishes_by}
use Rattle.kanal_channel.proofs.shared.Shared.recv_timeout.Goals as goal

-- the deadline is so long after the moment that the clock answered at first
pub returns : goal.returns
returns g c =
    let w = g.H.History.relations in
    let answered = g.C.Clock.answers c.args.clock.now in
    let old = c.args.pass.now in
    let new = c.make_until.new.pass in
    let result = c.received_in_time.result in
    let finishes = finishes_by w answered c.in-Some.deadline old new Recv receive_in_time c.make_until.result result c.make_until.ensures.come refl c.received_in_time.ensures in
    let sum = c.in-Some.ensures.sum in
    let received : ReceivesInTime w old new answered (as_nanos c.args.duration) result = (
      c.now-moment.result,
      c.now-moment.ensures.answered,
      inl (subst (λ n. n < 2 ^ 64) sum.0 sum.1, subst (λ n. ReceivesBy w old new answered n result) sum.0 (inl finishes)),
    ) in
    record { received = received; got = receives_in_time_got w g.H.History.exchanges g.met.H.History.tells_exchanges old new answered (as_nanos c.args.duration) result received }
