use Rattle.std.specs.Duration.{as_nanos}
use Rattle.kanal_state.specs.Handles.{SendsInTime}
use Rattle.kanal.proofs.Calling.{by_caller}
use Rattle.kanal.proofs.sender_view.SenderView.send_timeout.Goals as goal

pub returns : goal.returns
returns g c = record {
  sent = by_caller (λ old new. SendsInTime g.H.History.relations old new (g.C.Clock.answers c.args.clock.now)
      (as_nanos c.args.duration) c.args.message c.send_timeout-answer.result)
      c.enter-rt.ensures.before c.exit.ensures.back c.enter-rt.ensures.owed c.send_timeout-answer.ensures.sent;
}
