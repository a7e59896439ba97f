use Rattle.std.specs.Duration.{as_nanos}
use Rattle.kanal_state.specs.Handles.{ReceivesInTime}
use Rattle.kanal.proofs.Calling.{by_caller}
use Rattle.kanal.proofs.receiver_view.ReceiverView.recv_timeout.Goals as goal

pub returns : goal.returns
returns g c = record {
  received = by_caller (λ old new. ReceivesInTime g.H.History.relations old new (g.C.Clock.answers c.args.clock.now)
      (as_nanos c.args.duration) c.recv_timeout-answer.result)
      c.enter-rt.ensures.before c.exit.ensures.back c.enter-rt.ensures.owed c.recv_timeout-answer.ensures.received;
}
