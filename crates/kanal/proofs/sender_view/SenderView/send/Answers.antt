use Rattle.kanal_state.specs.Handles.{Sends}
use Rattle.kanal.proofs.Calling.{by_caller}
use Rattle.kanal.proofs.sender_view.SenderView.send.Goals as goal

pub returns : goal.returns
returns g c = record {
  sent = by_caller (λ old new. Sends g.H.History.relations old new c.args.message c.send-answer.result)
      c.enter-rt.ensures.before c.exit.ensures.back c.enter-rt.ensures.owed c.send-answer.ensures.sent;
}
