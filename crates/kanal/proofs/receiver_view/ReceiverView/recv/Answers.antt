use Rattle.kanal_state.specs.Handles.{Receives}
use Rattle.kanal.proofs.Calling.{by_caller}
use Rattle.kanal.proofs.receiver_view.ReceiverView.recv.Goals as goal

pub returns : goal.returns
returns g c = record {
  received = by_caller (λ old new. Receives g.H.History.relations old new c.recv-answer.result)
      c.enter-rt.ensures.before c.exit.ensures.back c.enter-rt.ensures.owed c.recv-answer.ensures.received;
}
