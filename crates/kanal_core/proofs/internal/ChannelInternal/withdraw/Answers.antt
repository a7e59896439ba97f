use Rattle.kanal_core.proofs.Common.{◌≡◌, List, Option, Some, None, IsSome, IfNone, refl, sym, ap, ◌∙◌, inl, inr, Waiter, waiter_of, IsPlaced}
use Rattle.kanal_core.specs.Inside.{channel_of}
use Rattle.kanal_core.proofs.Sides.{placed-found, rises-without}
use Rattle.kanal_core.proofs.Stepping.{not-there, withdraws}
use Rattle.kanal_core.proofs.Sounding.{side-without}
use Rattle.kanal_core.proofs.internal.ChannelInternal.withdraw.Goals as goal

pub invariant_of-self : goal.invariant_of-self
invariant_of-self g c =
    let now = c.self.inside in
    rw c.remove.ensures.others (record {
      side = side-without c.args.ticket now.buffer.messages now.capacity now.waiters c.self.invariant.side;
      rises = rises-without c.args.ticket 0 now.waiters now.next c.self.invariant.rises;
      within = c.self.invariant.within;
      room = c.self.invariant.room;
    })

placed : (g : _) (c : goal.After-remove g) (o : Option (Waiter _ _)) → o ≡ waiter_of c.args.ticket c.self.inside.waiters → IsSome o → IsPlaced c.args.ticket c.self.inside.waiters
placed g c (Some x) is some = placed-found c.args.ticket 0 c.self.inside.waiters c.self.inside.next x c.self.invariant.rises (sym is)
placed g c None is some = absurd (cc)

pub returns-clause-step : goal.returns-clause-step
returns-clause-step g c =
    let now = c.self.inside in
    rw (← c.self.view_is, c.remove.ensures.others) (λ known.
    let is_placed : IsPlaced c.args.ticket now.waiters = elim known [ inl some ↦ placed g c c.remove.result c.remove.ensures.value some | inr p ↦ p ] in
    rw c.remove.ensures.value (withdraws now.capacity now.senders now.receivers now.next now.buffer.messages now.waiters c.args.ticket c.self.invariant.rises is_placed c.self.invariant.side))

-- where nobody has the ticket, all stays
pub returns-clause-missing : goal.returns-clause-missing
returns-clause-missing g c =
    if-nobody c.remove.result (λ none. ap (λ (ws : List (Waiter _ _)). record (channel_of c.self.inside) { waiters = ws }) (c.remove.ensures.others ∙ not-there c.args.ticket c.self.inside.waiters (sym c.remove.ensures.value ∙ none)) ∙ c.self.view_is)
  where
    if-nobody : {X : Type 0} {P : Type 0} (o : Option X) → (o ≡ None → P) → IfNone o P
    if-nobody None p = p refl
    if-nobody (Some x) p = tt
