-- What a waiter brings is no part of the line, and no part of who leaves it.
use Rattle.kanal_state.proofs.Common.{◌≡◌, Bool, false, List, [], ◌∷◌, map, ◌++◌, Option, Some, None, MatchOption, refl, ap, subst, ◌∙◌, inl, inr, cases_Bool, option_map, Ticket, Waiter, ChannelView, line_of, entry_of, demand_of, bare, same_ticket, waiter_of, with_w, without, Brought, Renews, Swaps, TakesNode}
use Rattle.std.specs.List.{filter_map}
use Rattle.futures.specs.declared.task.waker.Waker.{Waker}

module _ {T W : Type 0} where
  -- what is read of waiters without their W is read alike where one has another W
  with-same : {B : Type 0} (f : Waiter T W → Option B) → ((x : Waiter T W) (v : W) → f (record x { w = v }) ≡ f x) → (t : Ticket) (v : W) (ws : List (Waiter T W)) → filter_map f (with_w t v ws) ≡ filter_map f ws
  with-same f same t v [] = refl
  with-same f same t v (w ∷ ws) =
      elim (cases_Bool (same_ticket w.ticket t)) [
        | inl e ↦ rw (e, same w v) refl
        | inr e ↦ rw (e, with-same f same t v ws) refl
      ]

  -- a channel in which a waiter has another W stands for the same line
  pub line-with : (c : ChannelView T W) (t : Ticket) (v : W) → line_of (record c { waiters = with_w t v c.waiters }) ≡ line_of c
  line-with c t v =
      ap (λ es. record (line_of (record c { waiters = with_w t v c.waiters })) { line = map bare c.buffer ++ es }) (with-same entry_of (λ x w. refl) t v c.waiters)
      ∙ ap (λ ds. record (line_of c) { demands = ds }) (with-same demand_of (λ x w. refl) t v c.waiters)

module _ {T W : Type 0} (t : Ticket) (v : W) where
  -- where a waiter has another W, it alone has
  pub waiter-with : (ws : List (Waiter T W))
      → waiter_of t (with_w t v ws) ≡ option_map (λ (w : Waiter T W). record w { w = v }) (waiter_of t ws)
  waiter-with [] = refl
  waiter-with (w ∷ ws) = elim (cases_Bool (same_ticket w.ticket t)) [ inl e ↦ rw (e, e) refl | inr e ↦ rw (e, e, waiter-with ws) refl ]

  -- without that waiter the list is as it was
  pub without-with : (ws : List (Waiter T W)) → without t (with_w t v ws) ≡ without t ws
  without-with [] = refl
  without-with (w ∷ ws) = elim (cases_Bool (same_ticket w.ticket t)) [ inl e ↦ rw (e, e) refl | inr e ↦ rw (e, e, without-with ws) refl ]

-- with the W that it had a waiter is as it was
pub with-own : {T W : Type 0} (t : Ticket) (w : Waiter T W) (ws : List (Waiter T W)) → waiter_of t ws ≡ Some w → with_w t w.w ws ≡ ws
with-own t w [] is = refl
with-own t w (x ∷ ws) is =
    elim (cases_Bool (same_ticket x.ticket t)) [
      | inl e ↦
          let same : w ≡ x = cc (rw e at is) in
          rw (e, same) refl
      | inr e ↦ rw (e, with-own t w ws (rw e at is)) refl
    ]

module _ {T W : Type 0} (t : Ticket) (old : List (Waiter T W)) (was now : W) (Q : Type 0) (P : W → W → Type 0) where
  found : (o : Option (Waiter T W)) → Some was ≡ option_map (λ w. w.w) o → P was now
      → MatchOption o Q (λ w. (v : W) × (with_w t now old ≡ with_w t v old) × P w.w v)
  found None e holds = absurd (cc)
  found (Some w) e holds =
      let same : was ≡ w.w = cc (e) in
      (now, refl, subst (λ v. P v now) same holds)

-- who waits with the ticket brought a waiter's handle that swapped its waker
pub renews : {T : Type 0} (t : Ticket) (spare after : Option Waker) (old : List (Waiter T Brought)) (was now : Brought)
    → Some was ≡ option_map (λ w. w.w) (waiter_of t old) → Swaps spare was now after → Renews t spare old (with_w t now old) after
renews t spare after old was now e swaps =
    found t old was now ((with_w t now old ≡ old) × (after ≡ spare)) (λ a b. Swaps spare a b after) (waiter_of t old) e swaps

module _ {T : Type 0} (t : Ticket) (old : List (Waiter T Brought)) where
  -- who waits with the ticket brought a waiter's handle out of which the reserved node was taken
  pub takes_node : (was now : Brought) (taken : Bool) → Some was ≡ option_map (λ w. w.w) (waiter_of t old) → taken ≡ was.has_node
      → now ≡ record was { has_node = false } → TakesNode t old (with_w t now old) taken
  takes_node was now taken e node stays = at (waiter_of t old) e
    where
      at : (o : Option (Waiter T Brought)) → Some was ≡ option_map (λ w. w.w) o
          → MatchOption o ((with_w t now old ≡ old) × (taken ≡ false))
          (λ w. (with_w t now old ≡ with_w t (record w.w { has_node = false }) old) × (taken ≡ w.w.has_node))
      at None e = absurd (cc (e))
      at (Some w) e =
          let same : was ≡ w.w = cc (e) in
          (ap (λ v. with_w t v old) (stays ∙ ap (λ (v : Brought). record v { has_node = false }) same), node ∙ ap (λ v. v.has_node) same)
