use Rattle.kanal_core.proofs.Common.{◌≡◌, ◌==◌, true, not, length, sym, ap, ◌∙◌, false≢true, buffered, line_of}
use Rattle.kanal_core.proofs.Sealing.{nothing-left}
use Rattle.kanal_core.proofs.Sided.{len-line}
use Rattle.kanal_core.proofs.internal.ChannelInternal.is_terminated.Goals.{then-send_side_gone, else-send_side_gone}
use Rattle.kanal_core.proofs.internal.ChannelInternal.is_terminated.Goals as goal

pub returns-then-is_empty : goal.returns-then-is_empty
returns-then-is_empty g c =
    let now = c.self.inside in
    elim c.if-send_side_gone.branch [
      | then-send_side_gone w ↦
          let gone : (now.senders == 0) ≡ true = ap (λ x. x.senders == 0) c.self.view_is ∙ (sym c.send_side_gone.ensures ∙ w.if-send_side_gone.true) in
          let empty : (length now.buffer.messages == 0) ≡ true =
          ap (λ k. k == 0) (sym (len-line now.buffer.messages now.capacity now.waiters c.self.invariant.side c.self.invariant.within))
          ∙ (ap (λ x. buffered (line_of x) == 0) c.self.view_is ∙ (sym w.is_empty.ensures ∙ (sym w.value-is ∙ c.if-is_empty.true))) in
          rw (← c.self.view_is, nothing-left now.capacity now.buffer.messages now.waiters c.self.invariant.side, gone, empty) (ap not c.sender_first.ensures)
      | else-send_side_gone w ↦ absurd (false≢true (sym w.if-send_side_gone.false ∙ (sym w.value-is ∙ c.if-is_empty.true)))
    ]
