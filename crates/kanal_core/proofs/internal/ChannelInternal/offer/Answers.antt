use Rattle.kanal_core.proofs.Common.{◌≡◌, false, length, refl, sym, ap, ◌∙◌, subst, arith, false≢true, is_below, IsOneSided, Rises, AllReceive}
use Rattle.kanal_core.proofs.Sided.{receiver-side}
use Rattle.kanal_core.proofs.Stepping.{enters-handed, no-place}
use Rattle.kanal_core.proofs.Sounding.{side-tail, rises-tail}
use Rattle.kanal_core.proofs.internal.ChannelInternal.offer.Goals as goal

pub invariant_of-self : goal.invariant_of-self
invariant_of-self g c =
    let now = c.self.inside in
    let h = c.hand_over.ensures in
    record {
      side = side-tail now.buffer.messages now.capacity h.first c.hand_over.new.waiters (subst (IsOneSided now.buffer.messages now.capacity) h.was c.self.invariant.side);
      rises = rises-tail h.first c.hand_over.new.waiters now.next (let P = λ (ws : _). Rises 0 ws now.next in subst P h.was c.self.invariant.rises);
      within = c.self.invariant.within;
      room = c.self.invariant.room;
    }

pub returns-then-receiver_first-clause-step : goal.returns-then-receiver_first-clause-step
returns-then-receiver_first-clause-step g c =
    let now = c.self.inside in
    let h = c.hand_over.ensures in
    let one = receiver-side now.buffer.messages now.capacity now.waiters c.self.invariant.side c.self.invariant.within (sym c.if-receiver_first.ensures) in
    let receive = subst AllReceive h.was one.0 in
    rw (← c.self.view_is, h.was, one.1, h.settled) (enters-handed now.capacity now.senders now.receivers now.next h.first c.hand_over.new.waiters c.args.message c.if-self-eq0.false c.if-self-eq0-3.false receive.0 receive.1)

pub returns-then-receiver_first-clause-waiter : goal.returns-then-receiver_first-clause-waiter
returns-then-receiver_first-clause-waiter g c =
    let h = c.hand_over.ensures in
    (h.first, ap (λ x. x.waiters) (sym c.self.view_is) ∙ h.was, ap (λ x. x.ticket) h.settled, ap (λ x. x.w) h.settled)

pub returns-then-not-has_place-clause-step : goal.returns-then-not-has_place-clause-step
returns-then-not-has_place-clause-step g c =
    let now = c.self.inside in
    let limit : now.buffer.limit ≡ now.capacity = c.self.invariant.room (omega (arith, c.if-self-eq0.false)) in
    let full : is_below (length now.buffer.messages) now.capacity ≡ false = sym (ap (λ l. is_below (length now.buffer.messages) l) limit) ∙ sym c.if-not-has_place.ensures in
    rw (← c.self.view_is)
    ((c.if-self-eq0.false, refl), c.if-self-eq0-3.false, no-place now.capacity now.senders now.receivers now.next now.buffer.messages now.waiters c.self.invariant.side c.self.invariant.within (sym c.if-receiver_first.ensures) full, refl)

pub returns-then-not-has_place-clause-enters : goal.returns-then-not-has_place-clause-enters
returns-then-not-has_place-clause-enters g c = λ _ _ place. absurd (false≢true (sym (returns-then-not-has_place-clause-step g c).2 ∙ place))
