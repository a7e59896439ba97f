-- Who leaves the list of those that wait, by what the core says of each call.
use Rattle.kanal_events.proofs.Common.{◌≡◌, ◌≢◌, arith, Bool, true, false, ◌==◌, List, [], ◌∷◌, map, Option, None, Some, cond, refl, ap, sym, subst, ◌∙◌, inl, Reason, Waiter, MovesTo, OldestLeft, ChannelView, after_drain, closed, ended_by, line_of, receiver_dropped, sealed, sender_dropped, settlement, taken_by, drop_receiver, drop_sender, seal, receiver_first, sender_first, Event, DropRx, DropTx, Seal, Done, moving, step}
use Rattle.kanal_core.specs.declared.internal.outcome.Settled.{Settled}
use Rattle.kanal_events.specs.declared.step_result.Leaving.TheVariants.{All}
use Rattle.kanal_events.specs.Leaving.{IsStep, Leave, at_most_one}
use Rattle.kanal_events.proofs.Giving.{none-left}

module _ {T W : Type 0} where
  -- at most the oldest leaves
  pub oldest_leaves : (old new : List (Waiter T W)) (s : Option (Settled T W)) → OldestLeft old s new → Leave old (at_most_one s) new
  oldest_leaves old new None is = is
  oldest_leaves old new (Some s) left = subst (λ ws. Leave ws (s ∷ []) new) (sym left.1) (left.2, left.3, refl)

  all-ended : (reason : Reason) (old : List (Waiter T W)) → Leave old (map (ended_by reason) old) []
  all-ended reason [] = refl
  all-ended reason (x ∷ old) = (refl, refl, all-ended reason old)

  all-taken : (old : List (Waiter T W)) → Leave old (map taken_by old) []
  all-taken [] = refl
  all-taken (x ∷ old) = (refl, refl, all-taken old)

  ended-if : (all : Bool) (reason : Reason) (old : List (Waiter T W)) → Leave old (cond all (map (ended_by reason) old) []) (cond all [] old)
  ended-if true reason old = all-ended reason old
  ended-if false reason old = refl

  taken-if : (all : Bool) (old : List (Waiter T W)) → Leave old (cond all (map taken_by old) []) (cond all [] old)
  taken-if true old = all-taken old
  taken-if false old = refl

  moved : (old : List (Waiter T W)) (gone is : List (Settled T W)) (new now : List (Waiter T W)) → is ≡ gone → now ≡ new → Leave old gone new → Leave old is now
  moved old gone is new now e f l = subst (λ ws. Leave old is ws) (sym f) (subst (λ ss. Leave old ss new) (sym e) l)

  -- a step that moves the line so, and by which all leave who wait, or nobody
  all-or-nobody : (all : Bool) (reason : Reason) (old after new : ChannelView T W) (event : Event T) (ended : List (Settled T W)) → after.next ≡ old.next → after.waiters ≡ cond all [] old.waiters
      → step (line_of old) event ≡ moving (record { line = line_of new; settled = map settlement ended }) Done → new ≡ after → ended ≡ cond all (map (ended_by reason) old.waiters) [] → IsStep old event (record { leaving = All Done ended }) new
  all-or-nobody all reason old after new event ended next stay told now is =
      let stays = ap (λ (c : ChannelView T W). c.waiters) now ∙ stay in
      record { told = inl (sym told); tickets = none-left old new all (ap (λ (c : ChannelView T W). c.next) now ∙ next) stays; leave = moved old.waiters _ ended _ new.waiters is stays (ended-if all reason old.waiters) }

  -- with the last sender all leave, and otherwise nobody
  pub sender_leaves : (old new : ChannelView T W) (reason : Reason) (ended : List (Settled T W)) → MovesTo (drop_sender (line_of old)) (map settlement ended) (line_of new)
      → new ≡ sender_dropped old → ended ≡ cond (old.senders == 1) (map (ended_by reason) old.waiters) [] → IsStep old DropTx (record { leaving = All Done ended }) new
  sender_leaves old new reason ended moves = all-or-nobody (old.senders == 1) reason old (sender_dropped old) new DropTx ended refl refl (ap (λ m. moving m Done) moves)

  -- so with the last receiver
  pub receiver_leaves : (old new : ChannelView T W) (reason : Reason) (ended : List (Settled T W)) → MovesTo (drop_receiver (line_of old)) (map settlement ended) (line_of new)
      → new ≡ receiver_dropped old → ended ≡ cond (old.receivers == 1) (map (ended_by reason) old.waiters) [] → IsStep old DropRx (record { leaving = All Done ended }) new
  receiver_leaves old new reason ended moves = all-or-nobody (old.receivers == 1) reason old (receiver_dropped old) new DropRx ended refl refl (ap (λ m. moving m Done) moves)

  -- by a seal the receivers leave that wait
  pub sealed_leaves : (old new : ChannelView T W) (reason : Reason) (ended : List (Settled T W)) → old.senders ≢ 0 → MovesTo (seal (line_of old)) (map settlement ended) (line_of new)
      → new ≡ sealed old → ended ≡ cond (receiver_first old.waiters) (map (ended_by reason) old.waiters) [] → IsStep old Seal (record { leaving = All Done ended }) new
  sealed_leaves old new reason ended sender moves = all-or-nobody (receiver_first old.waiters) reason old (sealed old) new Seal ended refl refl (grind arith)

  -- by a close all leave
  pub closed_leaves : (old new : ChannelView T W) (reason : Reason) (ended : List (Settled T W))
      → new ≡ closed old → ended ≡ map (ended_by reason) old.waiters → Leave old.waiters ended new.waiters
  closed_leaves old new reason ended after is = moved old.waiters _ ended _ new.waiters is (ap (λ (c : ChannelView T W). c.waiters) after) (all-ended reason old.waiters)

  -- by a drain the senders leave that wait
  pub drained_leaves : (old new : ChannelView T W) (ended : List (Settled T W))
      → new ≡ after_drain old → ended ≡ cond (sender_first old.waiters) (map taken_by old.waiters) [] → Leave old.waiters ended new.waiters
  drained_leaves old new ended after is = moved old.waiters _ ended _ new.waiters is (ap (λ (c : ChannelView T W). c.waiters) after) (taken-if (sender_first old.waiters) old.waiters)
