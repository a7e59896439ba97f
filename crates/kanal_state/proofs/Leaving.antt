-- Who leaves at a step that settles nobody, at the drop of a handle of either side, and by notice.
use Rattle.kanal_state.proofs.Common.{◌≡◌, Bool, false, true, List, [], ◌∷◌, map, Option, None, Some, MatchOption, refl, sym, ap, ◌∙◌, option_map, Ticket, Waiter, settlement, waiter_of, without, with_w, StepResult, settled_of, settled_of_left, Brought, TakesNode, HasLeft, left_of}
use Rattle.kanal_core.specs.declared.internal.outcome.Settled.{Settled}
use Rattle.kanal_events.specs.declared.step_result.Leaving.{Leaving}
use Rattle.kanal_events.specs.declared.step_result.Leaving.TheVariants.{One, All, Shut, Drained}
use Rattle.kanal_events.specs.Leaving.{Leave, gone_of, gone_of_left}
use Rattle.kanal_state.proofs.Renewing.{waiter-with, with-own, without-with}

module _ {T W : Type 0} where
  none-ended : (old new : List (Waiter T W)) (ended : List (Settled T W)) → map settlement ended ≡ [] → Leave old ended new → new ≡ old
  none-ended old new [] none left = left
  none-ended old new (s ∷ ended) none left = absurd (cc (none))

  none-left : (old new : List (Waiter T W)) (leaving : Leaving T W) → settled_of_left leaving ≡ [] → Leave old (gone_of_left leaving) new → new ≡ old
  none-left old new (One reply None) none left = left
  none-left old new (One reply (Some s)) none left = absurd (cc (none))
  none-left old new (All reply ended) none left = none-ended old new ended none left
  none-left old new (Shut closing) none left = none-ended old new closing.ended none left
  none-left old new (Drained count ended moved) none left = none-ended old new ended none left

  -- whom a step that settled nobody leaves waiting
  pub nobody_leaves : (old new : List (Waiter T W)) (made : StepResult T W) → settled_of made ≡ [] → Leave old (gone_of made) new → new ≡ old
  nobody_leaves old new made none left = none-left old new made.leaving none left

module _ {T : Type 0} (t : Ticket) (old new : List (Waiter T Brought)) where
  -- what the taking of a reserved node says, of who has the ticket
  abbrev Takes : Bool → Option (Waiter T Brought) → Type 0
  Takes taken o =
      MatchOption o ((new ≡ old) × (taken ≡ false)) (λ w. (new ≡ with_w t (record w.w { has_node = false }) old) × (taken ≡ w.w.has_node))

  none-taken : (o : Option (Waiter T Brought)) → waiter_of t old ≡ o → Takes false o → new ≡ old
  none-taken None is takes = takes.0
  none-taken (Some w) is takes = takes.0 ∙ rw takes.1 (with-own t w old is)

  -- where no reserved node was taken nobody changed
  pub none_taken : TakesNode t old new false → new ≡ old
  none_taken takes = none-taken (waiter_of t old) refl takes

  -- whose reserved node was taken: as who waited, and as who waits now
  record HadRoom : Type 0 where
    waiter : Waiter T Brought
    waited : waiter_of t old ≡ Some waiter
    waits : waiter_of t new ≡ Some (record waiter { w = record waiter.w { has_node = false } })
    node : waiter.w.has_node ≡ true
    others : without t new ≡ without t old

  one-taken : (o : Option (Waiter T Brought)) → waiter_of t old ≡ o → Takes true o → HadRoom
  one-taken None is takes = absurd (cc (takes.1))
  one-taken (Some w) is takes =
      let v = record w.w { has_node = false } in
      record {
        waiter = w;
        waited = is;
        waits = ap (waiter_of t) takes.0 ∙ waiter-with t v old ∙ ap (option_map (λ (w : Waiter T Brought). record w { w = v })) is;
        node = sym takes.1;
        others = ap (without t) takes.0 ∙ without-with t v old;
      }

  -- whose reserved node was taken waits still
  pub waits_still : TakesNode t old new true → None ≡ waiter_of t new → ⊥
  waits_still takes none =
      let had = one-taken (waiter_of t old) refl takes in
      absurd (cc (none, had.waits))

  -- who is withdrawn then has left
  pub has_left : TakesNode t old new true → (w : Waiter T Brought) → Some w ≡ waiter_of t new
      → (after : List (Waiter T Brought)) → after ≡ without t new → HasLeft old (Some (left_of w)) after
  has_left takes w is after others =
      let had = one-taken (waiter_of t old) refl takes in
      let same : w ≡ record had.waiter { w = record had.waiter.w { has_node = false } } = cc (is, had.waits) in
      record {
        ticket = t;
        waiter = had.waiter;
        waited = had.waited;
        node = had.node;
        entry = ap (λ x. Some (left_of x)) same;
        others = others ∙ had.others;
      }
