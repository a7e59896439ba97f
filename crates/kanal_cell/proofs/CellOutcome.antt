-- What becomes of the outcome's slot: the settle fills it once, and the waiter's next step takes what it holds.
use Rattle.kanal_cell.proofs.Common.{◌≡◌, ℕ, ◌+◌, Bool, true, false, not, ◌&&◌, ◌||◌, cond, true≢false, ◌⊎◌, inl, inr, ⊎_elim, List, [], ◌∷◌, ◌++◌, refl, sym, ap, ◌∙◌, subst, Some, None, arith, slice_index, slice_set, some, none, some-injective, some-ne-none, get_elem?, State, Step, step, carried_after, stepped, rest, Bits, Role, Maker, WaiterToBe, SettlerToBe, Waiter, Settler, CellView, Held, CellSlot, Seated, bits, no_bits, number, fresh, word_bits, outcome_is_home, LiesIf, IsOutcome, IsSleeper, OutcomeLies, cell_state, HasBothEnds, FollowsRule, HasNotSettled, TookIf, settled, Carries, IsNotLent, IsLentWith, LiesAtHome, IsOut}
use Rattle.kanal_cell.specs.CellOutcome.{waited, EndStep, MaySettle, OutcomeSlot}
use mathlib.Core.Option as maybe
use Rattle.kanal_cell.proofs.CellBools.{bool_case, both, false_not, not_true, or_right}
use Rattle.kanal_cell.proofs.CellWord.{ended_same, ended_found, left_none}
use Rattle.kanal_cell.proofs.CellValues.{lent_values, values_of, ends_in, at_home, first_same, first_given}
use Rattle.kanal_cell.proofs.CellKeeps.{first_or_second, not_had}

-- the facts about Bools, in agreement's order: slept, left, had, ended, back, found SLEEPING
home_parts : (d e c : Bool) → d && not e && not c ≡ true → (d ≡ true) × (c ≡ false)
home_parts true true c h = absurd (true≢false (sym h))
home_parts true false true h = absurd (true≢false (sym h))
home_parts true false false h = (refl, refl)
home_parts false e c h = absurd (true≢false (sym h))

stays_gone : (d e c f : Bool) → d && not e && not c ≡ false → d && not e && not (c || f) ≡ false
stays_gone true true c f h = refl
stays_gone true false true f h = refl
stays_gone true false false f h = absurd (true≢false h)
stays_gone false e c f h = refl

had_gone : (d e c : Bool) → c ≡ true → d && not e && not c ≡ false
had_gone true true c h = refl
had_gone true false true h = refl
had_gone true false false h = absurd (true≢false (sym h))
had_gone false e c h = refl

not_one : ◌≡◌ {A = ℕ} 1 0 → ⊥
not_one e = omega (arith, e)

both_same : (a b c d : CellView) → a ∷ b ∷ [] ≡ c ∷ d ∷ [] → (a ≡ c) × (b ≡ d)
both_same a b c d e = (some-injective a c (ap (λ (vs : List CellView). get_elem? vs 0) e), some-injective b d (ap (λ (vs : List CellView). get_elem? vs 1) e))

-- where a running cell has its slot, its views and its word
module _ {P : Type 0} where
  -- what a step tells hangs on no `Step` of the table, so this one stands for all
  abbrev some_step : Step (CellSlot P)
  some_step = step 2 0 0 0 none

  home_at : (s : State (CellSlot P) CellView) (r : HasBothEnds s) → get_elem? s.homes 0 ≡ some r.outcome
  home_at s r = ap (λ (x : State (CellSlot P) CellView). get_elem? x.homes 0) r.is

  word_at : (s : State (CellSlot P) CellView) (r : HasBothEnds s) → slice_index s.words 0 ≡ number (word_bits r.waiter r.settler)
  word_at s r = ap (λ (x : State (CellSlot P) CellView). slice_index x.words 0) r.is

  views_at : (s : State (CellSlot P) CellView) (r : HasBothEnds s) → s.views ≡ r.waiter ∷ r.settler ∷ []
  views_at s r = ap (λ (x : State (CellSlot P) CellView). x.views) r.is

  is_out : (s : State (CellSlot P) CellView) (r : HasBothEnds s) → r.outcome ≡ none → IsOut 0 s.homes
  is_out s r e = home_at s r ∙ ap some e

  -- the settler's role is one of two
  ended_role : (w t : CellView) (r : Role) (h : maybe.Option (CellSlot P)) → OutcomeLies w t r h → t.set.ended ≡ true → r ≡ Settler
  ended_role w t Maker h o e = absurd o
  ended_role w t WaiterToBe h o e = absurd o
  ended_role w t SettlerToBe h o e = absurd (true≢false (sym e ∙ ap (λ (v : CellView). v.set.ended) o.1))
  ended_role w t Waiter h o e = absurd o
  ended_role w t Settler h o e = refl

  out_role : (w t : CellView) (r : Role) (h : maybe.Option (CellSlot P)) → OutcomeLies w t r h → h ≡ none → r ≡ Settler
  out_role w t Maker h o e = absurd o
  out_role w t WaiterToBe h o e = absurd o
  out_role w t SettlerToBe h o e = absurd (some-ne-none None (sym o.0 ∙ e))
  out_role w t Waiter h o e = absurd o
  out_role w t Settler h o e = refl

  full_role : (w t : CellView) (r : Role) (h : maybe.Option (CellSlot P)) (x : Held P) → OutcomeLies w t r h → h ≡ some (Some x) → r ≡ Settler
  full_role w t Maker h x o e = absurd o
  full_role w t WaiterToBe h x o e = absurd o
  full_role w t SettlerToBe h x o e = absurd (none_some x (some-injective None (Some x) (sym o.0 ∙ e)))
    where
      is_none : CellSlot P → Type 0
      is_none None = Unit {0}
      is_none (Some y) = ⊥

      none_some : (y : Held P) → None ≡ Some y → ⊥
      none_some y same = subst is_none same tt
  full_role w t Waiter h x o e = absurd o
  full_role w t Settler h x o e = refl

  -- from the lending to the settler on, the slot lies at home exactly while the outcome is there
  lies_of : (s : State (CellSlot P) CellView) (r : HasBothEnds s) → r.settler.role ≡ Settler → LiesIf (outcome_is_home r.waiter r.settler) IsOutcome r.outcome
  lies_of s r is = subst (λ (ro : Role). OutcomeLies r.waiter r.settler ro r.outcome) is r.outcome_lies

  out_of : (b : Bool) (h : maybe.Option (CellSlot P)) → LiesIf b IsOutcome h → b ≡ false → h ≡ none
  out_of b h l e = subst (λ v. LiesIf v IsOutcome h) e l

  home_of : (b : Bool) (h : maybe.Option (CellSlot P)) → LiesIf b IsOutcome h → b ≡ true → LiesIf true IsOutcome h
  home_of b h l e = subst (λ v. LiesIf v IsOutcome h) e l

  -- the views after a step at one of the two places
  views_after : {told : Seated P → ℕ → Seated P → Type 0} {s t : State (CellSlot P) CellView} {m n : Seated P} (e : EndStep told s t m n)
      → ((e.before.waiter ≡ m.0) × (n.0 ≡ e.after.waiter) × (e.before.settler ≡ e.after.settler))
      ⊎ ((e.before.settler ≡ m.0) × (n.0 ≡ e.after.settler) × (e.before.waiter ≡ e.after.waiter))
  views_after {told} {s} {t} {m} {n} e =
      let w = e.before.waiter in
      let q = e.before.settler in
      let now : slice_set (w ∷ q ∷ []) e.place n.0 ≡ e.after.waiter ∷ e.after.settler ∷ [] =
      ap (λ (vs : List CellView). slice_set vs e.place n.0) (sym (views_at s e.before)) ∙ ap (λ (x : State (CellSlot P) CellView). x.views) (sym e.is) ∙ views_at t e.after in
      ⊎_elim
      (λ (p : (e.place ≡ 0) × (w ≡ m.0)). let at = both_same n.0 q _ _ (subst (λ (k : ℕ). slice_set (w ∷ q ∷ []) k n.0 ≡ e.after.waiter ∷ e.after.settler ∷ []) p.0 now) in inl (p.1, at.0, at.1))
      (λ (p : (e.place ≡ 1) × (q ≡ m.0)). let at = both_same w n.0 _ _ (subst (λ (k : ℕ). slice_set (w ∷ q ∷ []) k n.0 ≡ e.after.waiter ∷ e.after.settler ∷ []) p.0 now) in inr (p.1, at.1, at.0))
      (first_or_second w q m.0 e.place (subst (λ (vs : List CellView). get_elem? vs e.place ≡ some m.0) (views_at s e.before) e.seat))

  -- the settler's step is made by the settler, and once
  settler_steps : {s t : State (CellSlot P) CellView} {m n : Seated P} (e : EndStep (settled some_step) s t m n)
      → (e.before.settler ≡ m.0) × (n.0 ≡ e.after.settler) × (e.before.waiter ≡ e.after.waiter)
  settler_steps {s} {t} {m} {n} e = ⊎_elim
      (λ (p : (e.before.waiter ≡ m.0) × (n.0 ≡ e.after.waiter) × (e.before.settler ≡ e.after.settler)).
      let ended : e.after.waiter.set.ended ≡ true = ap (λ (v : CellView). v.set.ended) (sym p.1 ∙ e.tells.2) in
      absurd (true≢false (sym ended ∙ e.after.recalls.waiter_set)))
      (λ (p : (e.before.settler ≡ m.0) × (n.0 ≡ e.after.settler) × (e.before.waiter ≡ e.after.waiter)). p)
      (views_after e)

  not_before : {s t : State (CellSlot P) CellView} {m n : Seated P} (e : EndStep (settled some_step) s t m n) → e.before.settler.set.ended ≡ false
  not_before {s} {t} {m} {n} e =
      let p = settler_steps e in
      let more : e.after.settler.steps ≡ e.before.settler.steps + 1 = ap (λ (v : CellView). v.steps) (sym p.1 ∙ e.tells.2) ∙ ap (λ (v : CellView). v.steps + 1) (sym p.0) in
      let over : e.after.settler.set.ended ≡ true = ap (λ (v : CellView). v.set.ended) (sym p.1 ∙ e.tells.2) in
      let one : e.after.settler.steps ≡ 1 = e.after.recalls.once ∙ ap (λ (b : Bool). cond b 1 0) over in
      bool_case e.before.settler.set.ended
      (λ h. let other : e.before.settler.steps ≡ 1 = e.before.recalls.once ∙ ap (λ (b : Bool). cond b 1 0) h in absurd (omega (arith, more, one, other)))
      (λ h. h)

  -- the settler's role, and what the slots are then
  settler_role : {s t : State (CellSlot P) CellView} {m n : Seated P} (e : EndStep (settled some_step) s t m n) → (e.before.settler.role ≡ Settler) × (e.after.settler.role ≡ Settler)
  settler_role {s} {t} {m} {n} e =
      let p = settler_steps e in
      let over : e.after.settler.set.ended ≡ true = ap (λ (v : CellView). v.set.ended) (sym p.1 ∙ e.tells.2) in
      let is = ended_role e.after.waiter e.after.settler e.after.settler.role e.after.outcome e.after.outcome_lies over in
      let same : e.after.settler.role ≡ e.before.settler.role = ap (λ (v : CellView). v.role) (sym p.1 ∙ e.tells.2) ∙ ap (λ (v : CellView). v.role) (sym p.0) in
      (sym same ∙ is, is)

  settle_finds_out : {s t : State (CellSlot P) CellView} {m n : Seated P} (e : EndStep (settled some_step) s t m n) → e.before.outcome ≡ none
  settle_finds_out {s} {t} {m} {n} e = out_of _ e.before.outcome (lies_of s e.before (settler_role e).0) (ap (λ b. b && not e.before.settler.had && not e.before.waiter.had) (not_before e))

  -- a settle that found no LEFT leaves an outcome at home, so the settler had put it
  settle_leaves : {s t : State (CellSlot P) CellView} {m n : Seated P} (e : EndStep (settled some_step) s t m n) → n.0.found.left ≡ false → LiesIf true IsOutcome e.after.outcome
  settle_leaves {s} {t} {m} {n} e stays =
      let p = settler_steps e in
      let going = not_before e in
      let w = e.before.waiter in
      let q = e.before.settler in
      let over : e.after.settler.set.ended ≡ true = ap (λ (v : CellView). v.set.ended) (sym p.1 ∙ e.tells.2) in
      let kept : e.after.settler.had ≡ false = e.after.recalls.back ∙ (λ i. over i && (ap (λ (v : CellView). v.found.left) (sym p.1) ∙ stays) i) in
      let unhad : w.had ≡ false = not_true _ (not_had w.set.sleeping w.set.left w.had q.set.ended q.had q.found.sleeping (both _ _ e.before.agreed (false_not _ going))) in
      home_of _ e.after.outcome (lies_of t e.after (settler_role e).1) (λ i. over i && not (kept i) && not ((ap (λ (v : CellView). v.had) (sym p.2) ∙ unhad) i))

  gives_first : {s t : State (CellSlot P) CellView} {m n : Seated P} (e : EndStep (settled some_step) s t m n) → n.0.found.left ≡ false → TookIf e.tells.0.sleeping 1 IsSleeper (rest m.1) n.1
  gives_first {s} {t} {m} {n} e stays = subst (λ b. TookIf e.tells.0.sleeping 1 IsSleeper (cond b m.1 (rest m.1)) n.1) (sym (ap (λ (v : CellView). v.found.left) e.tells.2) ∙ stays) e.tells.3

  keeps_all : {s t : State (CellSlot P) CellView} {m n : Seated P} (e : EndStep (settled some_step) s t m n) → n.0.found.left ≡ true → TookIf e.tells.0.sleeping 1 IsSleeper m.1 n.1
  keeps_all {s} {t} {m} {n} e gone = subst (λ b. TookIf e.tells.0.sleeping 1 IsSleeper (cond b m.1 (rest m.1)) n.1) (sym (ap (λ (v : CellView). v.found.left) e.tells.2) ∙ gone) e.tells.3

  took_values : (b : Bool) (c n : List (ℕ × CellSlot P)) → TookIf b 1 IsSleeper c n → lent_values n ≡ lent_values c
  took_values true c n t = ap lent_values t.2
  took_values false c n t = ap lent_values t

  -- a step of an end drops values of the slot from the front alone
  values_kept : {told : Seated P → ℕ → Seated P → Type 0} {s t : State (CellSlot P) CellView} {m n : Seated P} (e : EndStep told s t m n)
      → (lost : List (CellSlot P)) × (values_of s.homes (lent_values m.1) ≡ lost ++ values_of t.homes (lent_values n.1))
  values_kept {told} {s} {t} {m} {n} e = let ends = ends_in s.homes m.1 e.act e.valid in (
    ends.0,
    ends.1 ∙ (λ i. ends.0 ++ values_of (ap (λ (y : State (CellSlot P) CellView). y.homes) (sym e.is) i) (lent_values (sym e.lent i))),
  )

  settle_puts : {s t : State (CellSlot P) CellView} {m n : Seated P} (e : EndStep (settled some_step) s t m n) → n.0.found.left ≡ false
      → (x : Held P) × IsOutcome x × (m.1 ≡ (0, Some x) ∷ rest m.1) × LiesAtHome 0 (Some x) t.homes
  settle_puts {s} {t} {m} {n} e stays =
      let x = settle_leaves e stays in
      let lies : LiesAtHome 0 (Some x.0) t.homes = home_at t e.after ∙ ap some x.1 in
      let kept = values_kept e in
      let had = at_home s.homes none (lent_values m.1) (is_out s e.before (settle_finds_out e)) in
      let has = at_home t.homes (some (Some x.0)) (lent_values n.1) lies in
      let below = took_values _ (rest m.1) n.1 (gives_first e stays) in
      (x.0, x.2, first_given (Some x.0) m.1 (kept.0, sym had ∙ kept.1 ∙ ap (λ (l : List (CellSlot P)). kept.0 ++ l) (has ∙ ap (λ (l : List (CellSlot P)). Some x.0 ∷ l) below)), lies)

  -- the slot that was taken last, and what is lent below it
  top_lent : (x v : CellSlot P) (m : List (ℕ × CellSlot P)) → m ≡ (0, x) ∷ rest m → IsLentWith 0 v m → IsNotLent 0 (rest m)
  top_lent x v m top l = below (subst (λ (c : List (ℕ × CellSlot P)). IsLentWith 0 v c) top l)
    where
      below : IsLentWith 0 v ((0, x) ∷ rest m) → IsNotLent 0 (rest m)
      below (inl e) = e.2
      below (inr e) = absurd (e.0 refl)

  took_free : (b : Bool) (c n : List (ℕ × CellSlot P)) → TookIf b 1 IsSleeper c n → IsNotLent 0 c → IsNotLent 0 n
  took_free true c n t free = subst (λ (d : List (ℕ × CellSlot P)). IsNotLent 0 d) (sym t.2) (not_one, free)
  took_free false c n t free = subst (λ (d : List (ℕ × CellSlot P)). IsNotLent 0 d) (sym t) free

  took_lent : (v : CellSlot P) (b : Bool) (c n : List (ℕ × CellSlot P)) → TookIf b 1 IsSleeper c n → IsLentWith 0 v c → IsLentWith 0 v n
  took_lent v true c n t l = subst (λ (d : List (ℕ × CellSlot P)). IsLentWith 0 v d) (sym t.2) (inr (not_one, l))
  took_lent v false c n t l = subst (λ (d : List (ℕ × CellSlot P)). IsLentWith 0 v d) (sym t) l

  given : (st : Step (CellSlot P)) (s t : State (CellSlot P) CellView) (m n : Seated P) (v : CellSlot P) → EndStep (settled st) s t m n → n.0.found.left ≡ false → IsLentWith 0 v m.1 → IsNotLent 0 n.1
  given st s t m n v e stays l = let x = settle_puts e stays in took_free _ (rest m.1) n.1 (gives_first e stays) (top_lent (Some x.0) v m.1 x.2 l)

  back : (st : Step (CellSlot P)) (s t : State (CellSlot P) CellView) (m n : Seated P) (v : CellSlot P) → EndStep (settled st) s t m n → n.0.found.left ≡ true → IsLentWith 0 v m.1 → IsOut 0 t.homes × IsLentWith 0 v n.1
  back st s t m n v e gone l =
      let p = settler_steps e in
      let over : e.after.settler.set.ended ≡ true = ap (λ (v : CellView). v.set.ended) (sym p.1 ∙ e.tells.2) in
      let had : e.after.settler.had ≡ true = e.after.recalls.back ∙ (λ i. over i && (ap (λ (v : CellView). v.found.left) (sym p.1) ∙ gone) i) in
      let away = out_of _ e.after.outcome (lies_of t e.after (settler_role e).1) (λ i. over i && not (had i) && not e.after.waiter.had) in
      (is_out t e.after away, took_lent v _ m.1 n.1 (keeps_all e gone) l)

  once : (st : Step (CellSlot P)) (s t : State (CellSlot P) CellView) (m n : Seated P) → EndStep (settled st) s t m n → HasNotSettled m.0 × (n.0.found.ended ≡ false) × (n.0.set.ended ≡ true)
  once st s t m n e =
      let going = not_before e in
      let word : number e.tells.0 ≡ number (word_bits e.before.waiter e.before.settler) = sym e.tells.1 ∙ word_at s e.before in (
        ap (λ (v : CellView). v.set.ended) (sym (settler_steps e).0) ∙ going,
        ap (λ (v : CellView). v.found.ended) e.tells.2 ∙ ended_same e.tells.0 (word_bits e.before.waiter e.before.settler) word going,
        ap (λ (v : CellView). v.set.ended) e.tells.2,
      )

  -- a new end: the cell that is new allows it the step only once it has put the outcome
  abbrev new_cell : State (CellSlot P) CellView
  new_cell = cell_state 0 none none (fresh Waiter ∷ fresh Settler ∷ [])

  new_runs : HasBothEnds new_cell
  new_runs = record {
    waiter = fresh Waiter;
    settler = fresh Settler;
    outcome = none;
    sleeper = none;
    is = refl;
    waits = refl;
    agreed = refl;
    outcome_lies = refl;
    sleeper_lies = refl;
    recalls = record { back = refl; had = refl; once = refl; waiter_found = refl; settler_found = refl; waiter_set = refl; settler_set = (refl, refl); settler_new = λ e. refl };
  }

  two_views : (s : State (CellSlot P) CellView) (v : CellView) → FollowsRule s → get_elem? s.views 1 ≡ some v → HasBothEnds s
  two_views s v (inl (inl e)) at = absurd (some-ne-none v (sym at ∙ ap (λ (x : State (CellSlot P) CellView). get_elem? x.views 1) e))
  two_views s v (inl (inr e)) at = absurd (some-ne-none v (sym at ∙ ap (λ (x : State (CellSlot P) CellView). get_elem? x.views 1) e))
  two_views s v (inr r) at = r

  put_before : (f : ℕ → ℕ) (st : Step (CellSlot P)) (m : Seated P) → m.0 ≡ fresh Settler → MaySettle f st m → Carries 0 IsOutcome m.1
  put_before f st m is may =
      let y = may new_cell (inr new_runs) refl (ap some (sym is)) (omega arith) in
      let e : EndStep (settled st) new_cell (stepped new_cell 0 (f 0) 1 m.1 y.0 y.1) m (y.0, carried_after m.1 y.1) = record {
        before = new_runs;
        after = two_views _ y.0 y.3 refl;
        place = 1;
        seat = ap some (sym is);
        word = f 0;
        act = y.1;
        valid = y.2;
        is = refl;
        lent = refl;
        tells = y.4;
      } in
      let x = settle_puts e (ap (λ (v : CellView). v.found.left) y.4.2 ∙ left_none y.4.0 (sym y.4.1)) in
      (x.0, x.1, x.2)

  -- until the settle
  before : (s : State (CellSlot P) CellView) (r : HasBothEnds s) → r.settler.role ≡ Settler → HasNotSettled r.settler → (r.settler ≡ fresh Settler) × IsOut 0 s.homes
  before s r is going =
      let q = r.settler in
      let steps : q.steps ≡ 0 = r.recalls.once ∙ ap (λ (b : Bool). cond b 1 0) going in
      let set : q.set ≡ no_bits = λ i. bits (r.recalls.settler_set.0 i) (going i) (r.recalls.settler_set.1 i) in
      let had : q.had ≡ false = r.recalls.back ∙ ap (λ b. b && q.found.left) going in (
        (λ i. record { role = is i; steps = steps i; set = set i; found = r.recalls.settler_new going i; had = had i }),
        is_out s r (out_of _ r.outcome (lies_of s r is) (ap (λ b. b && not q.had && not r.waiter.had) going)),
      )

  -- what each step of the waiter tells
  abbrev WaitTells : Seated P → ℕ → Seated P → Type 0
  WaitTells m r n = (f : Bits) × (r ≡ number f) × (n.0.steps ≡ m.0.steps + 1) × (n.0.set.ended ≡ m.0.set.ended) × (n.0.had ≡ m.0.had || f.ended)
      × (f.ended ≡ true → m.0.had ≡ false → TookIf true 0 IsOutcome m.1 n.1)

  looked : (m n : Seated P) (f : Bits) → TookIf (f.ended && not m.0.had) 0 IsOutcome m.1 n.1 → f.ended ≡ true → m.0.had ≡ false → TookIf true 0 IsOutcome m.1 n.1
  looked m n f t over unhad = subst (λ b. TookIf b 0 IsOutcome m.1 n.1) (both _ _ over (false_not _ unhad)) t

  wait_tells : (m : Seated P) (r : ℕ) (n : Seated P) → waited some_step m r n → WaitTells m r n
  wait_tells m r n (inl p) = (
    p.0,
    p.1,
    ap (λ (v : CellView). v.steps) p.2,
    ap (λ (v : CellView). v.set.ended) p.2,
    ap (λ (v : CellView). v.had) p.2,
    λ over unhad. subst (λ b. TookIf b 0 IsOutcome (cond b m.1 (rest m.1)) n.1) over p.3,
  )
  wait_tells m r n (inr (inl p)) = (p.0, p.1, ap (λ (v : CellView). v.steps) p.2, ap (λ (v : CellView). v.set.ended) p.2, ap (λ (v : CellView). v.had) p.2, looked m n p.0 p.3)
  wait_tells m r n (inr (inr p)) = (p.0, p.1, ap (λ (v : CellView). v.steps) p.2, ap (λ (v : CellView). v.set.ended) p.2, ap (λ (v : CellView). v.had) p.2, looked m n p.0 p.3)

  -- they are made by the waiter
  waiter_steps : {s t : State (CellSlot P) CellView} {m n : Seated P} (e : EndStep (waited some_step) s t m n)
      → (e.before.waiter ≡ m.0) × (n.0 ≡ e.after.waiter) × (e.before.settler ≡ e.after.settler)
  waiter_steps {s} {t} {m} {n} e = ⊎_elim
      (λ (p : (e.before.waiter ≡ m.0) × (n.0 ≡ e.after.waiter) × (e.before.settler ≡ e.after.settler)). p)
      (λ (p : (e.before.settler ≡ m.0) × (n.0 ≡ e.after.settler) × (e.before.waiter ≡ e.after.waiter)).
      let told = wait_tells m _ n e.tells in
      let more : e.after.settler.steps ≡ e.before.settler.steps + 1 = ap (λ (v : CellView). v.steps) (sym p.1) ∙ told.2 ∙ ap (λ (v : CellView). v.steps + 1) (sym p.0) in
      let same : e.after.settler.set.ended ≡ e.before.settler.set.ended = ap (λ (v : CellView). v.set.ended) (sym p.1) ∙ told.3 ∙ ap (λ (v : CellView). v.set.ended) (sym p.0) in
      let now : e.after.settler.steps ≡ e.before.settler.steps = e.after.recalls.once ∙ ap (λ (b : Bool). cond b 1 0) same ∙ sym e.before.recalls.once in
      absurd (omega (arith, more, now)))
      (views_after e)

  taken : (st : Step (CellSlot P)) (s t : State (CellSlot P) CellView) (m n : Seated P) (x : Held P) → EndStep (waited st) s t m n → LiesAtHome 0 (Some x) s.homes → IsOut 0 t.homes × (n.1 ≡ (0, Some x) ∷ m.1)
  taken st s t m n x e lies =
      let told = wait_tells m _ n e.tells in
      let p = waiter_steps e in
      let w = e.before.waiter in
      let q = e.before.settler in
      let full : e.before.outcome ≡ some (Some x) = some-injective _ _ (sym (home_at s e.before) ∙ lies) in
      let is = full_role w q q.role e.before.outcome x e.before.outcome_lies full in
      let home : outcome_is_home w q ≡ true = bool_case (outcome_is_home w q) (λ h. h) (λ h. absurd (some-ne-none (Some x) (sym full ∙ out_of _ e.before.outcome (lies_of s e.before is) h))) in
      let parts = home_parts q.set.ended q.had w.had home in
      let over = ended_found told.0 (word_bits w q) (sym told.1 ∙ word_at s e.before) parts.0 in
      let took = told.5 over (ap (λ (v : CellView). v.had) (sym p.0) ∙ parts.1) in
      let had : e.after.waiter.had ≡ true = ap (λ (v : CellView). v.had) (sym p.1) ∙ told.4 ∙ or_right m.0.had told.0.ended over in
      let gone = out_of _ e.after.outcome (lies_of t e.after (ap (λ (v : CellView). v.role) (sym p.2) ∙ is)) (had_gone e.after.settler.set.ended e.after.settler.had e.after.waiter.had had) in
      let kept = values_kept e in
      let before_ = at_home s.homes (some (Some x)) (lent_values m.1) lies in
      let after_ = at_home t.homes none (lent_values n.1) (is_out t e.after gone) in
      let same : Some x ≡ Some took.0 = first_same (Some x) (Some took.0) (lent_values m.1) (lent_values m.1) kept.0
      (sym before_ ∙ kept.1 ∙ ap (λ (l : List (CellSlot P)). kept.0 ++ l) (after_ ∙ ap lent_values took.2)) (omega arith) in
      (is_out t e.after gone, took.2 ∙ ap (λ (y : CellSlot P). (0, y) ∷ m.1) (sym same))

  not_refilled : (st : Step (CellSlot P)) (s t : State (CellSlot P) CellView) (m n : Seated P) → EndStep (waited st) s t m n → IsOut 0 s.homes → IsOut 0 t.homes
  not_refilled st s t m n e away =
      let told = wait_tells m _ n e.tells in
      let p = waiter_steps e in
      let w = e.before.waiter in
      let q = e.before.settler in
      let empty : e.before.outcome ≡ none = some-injective _ _ (sym (home_at s e.before) ∙ away) in
      let is = out_role w q q.role e.before.outcome e.before.outcome_lies empty in
      let gone : outcome_is_home w q ≡ false = bool_case (outcome_is_home w q) (λ h. let x = home_of _ e.before.outcome (lies_of s e.before is) h in absurd (some-ne-none (Some x.0) (sym x.1 ∙ empty))) (λ h. h) in
      let had : e.after.waiter.had ≡ w.had || told.0.ended = ap (λ (v : CellView). v.had) (sym p.1) ∙ told.4 ∙ ap (λ (v : CellView). v.had || told.0.ended) (sym p.0) in
      let now : outcome_is_home e.after.waiter e.after.settler ≡ false = (λ i. (sym p.2 i).set.ended && not (sym p.2 i).had && not (had i)) ∙ stays_gone q.set.ended q.had w.had told.0.ended gone in
      is_out t e.after (out_of _ e.after.outcome (lies_of t e.after (ap (λ (v : CellView). v.role) (sym p.2) ∙ is)) now)

pub outcome_slot : {P : Type 0} → OutcomeSlot P
outcome_slot = record {
  out_before = before;
  put_before = put_before;
  ends_once = once;
  handed_over = λ st s t m n e stays. settle_puts e stays;
  given_away = given;
  kept_back = back;
  taken = taken;
  not_refilled = not_refilled;
}
