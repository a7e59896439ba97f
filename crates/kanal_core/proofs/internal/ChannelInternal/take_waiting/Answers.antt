use Rattle.kanal_core.proofs.Common.{◌≡◌, [], refl, sym, ap, ◌∙◌, subst, IsOneSided, Rises, AllSend}
use Rattle.kanal_core.proofs.Sided.{sender-side}
use Rattle.kanal_core.proofs.Stepping.{takes-waiting, no-line}
use Rattle.kanal_core.proofs.Sounding.{side-tail, rises-tail}
use Rattle.kanal_core.proofs.internal.ChannelInternal.take_waiting.Goals as goal
use Rattle.kanal_core.proofs.internal.ChannelInternal.take_waiting.Goals.{then-self-eq0, else-self-eq0}

pub invariant_of-self : goal.invariant_of-self
invariant_of-self g c =
    let now = c.self.inside in
    let h = c.pop_sender-message.ensures in
    record {
      side = side-tail now.buffer.messages now.capacity h.first c.pop_sender-message.new.waiters (subst (IsOneSided now.buffer.messages now.capacity) h.was c.self.invariant.side);
      rises = rises-tail h.first c.pop_sender-message.new.waiters now.next (let P = λ (ws : _). Rises 0 ws now.next in subst P h.was c.self.invariant.rises);
      within = c.self.invariant.within;
      room = c.self.invariant.room;
    }

pub returns-then-sender_first-clause-step : goal.returns-then-sender_first-clause-step
returns-then-sender_first-clause-step g c =
    let now = c.self.inside in
    let h = c.pop_sender-message.ensures in
    let one = sender-side now.buffer.messages now.capacity now.waiters c.self.invariant.side c.self.invariant.within (sym c.if-sender_first.ensures) in
    let send = subst AllSend h.was one.0 in
    let empty : now.buffer.messages ≡ [] = rw (← c.self.view_is) at c.requires.empty in
    let some_receiver : now.receivers ≡ 0 → ⊥ = rw (← c.self.view_is) at c.requires.open in
    rw (← c.self.view_is, one.1, h.was, empty, h.settled) (takes-waiting now.senders now.receivers now.next h.first c.pop_sender-message.new.waiters c.pop_sender-message.result.0 c.pop_sender-message.result.0 h.message send.2 some_receiver)

pub returns-then-sender_first-clause-waiter : goal.returns-then-sender_first-clause-waiter
returns-then-sender_first-clause-waiter g c =
    let h = c.pop_sender-message.ensures in
    (h.first, ap (λ x. x.waiters) (sym c.self.view_is) ∙ h.was, ap (λ x. x.ticket) h.settled, ap (λ x. x.w) h.settled)

pub returns-clause-step : goal.returns-clause-step
returns-clause-step g c =
    let now = c.self.inside in
    let empty : now.buffer.messages ≡ [] = rw (← c.self.view_is) at c.requires.empty in
    let some_receiver : now.receivers ≡ 0 → ⊥ = rw (← c.self.view_is) at c.requires.open in
    let none = no-line now.capacity now.senders now.receivers now.next now.buffer.messages now.waiters c.self.invariant.side c.self.invariant.within empty (sym c.if-sender_first.ensures) in
    elim c.if-self-eq0.branch [
      | then-self-eq0 w ↦ rw (w.result-is, ← c.self.view_is) ((some_receiver, refl), none, w.if-self-eq0.true)
      | else-self-eq0 w ↦ rw (w.result-is, ← c.self.view_is) ((some_receiver, refl), none, w.if-self-eq0.false)
    ]
