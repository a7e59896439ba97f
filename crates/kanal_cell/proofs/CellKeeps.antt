-- Each step keeps the rule.
use Rattle.kanal_cell.proofs.Common.{◌≡◌, ℕ, zero, suc, Bool, true, false, not, ◌&&◌, ◌||◌, cond, true≢false, ◌⊎◌, inl, inr, ⊎_elim, List, [], ◌∷◌, ◌++◌, refl, sym, ap, ◌∙◌, subst, Some, None, bit_or, bit_and, arith, slice_index, some, none, some-injective, some-ne-none, get_elem?, State, step, Act, keeps, takes, gives, chain, Valid, carried_after, stepped, Allows, rest, turned, Bits, Role, Maker, WaiterToBe, SettlerToBe, Waiter, Settler, CellView, Held, CellSlot, Seated, bits, number, fresh, stepped_to, after_settle, after_sleep, implies, is_within, word_bits, agreement, agree, Recalls, outcome_is_home, is_asleep, LiesIf, IsOutcome, IsSleeper, OutcomeLies, cell_state, FollowsRule, TookIf, waiter_began, settler_began, settled, slept, polled, quit, Carries}
use mathlib.Core.Option as maybe
use Rattle.kanal_cell.proofs.CellWord.{ended_set, or_left, or_ended, or_sleeping, left_of, set_of, sleeping_unset}
use Rattle.kanal_cell.proofs.CellBools.{and_left, and_right, both, follows, implied, bool_case, not_true, and_false, false_not, same_bool, within_all, within_trans}

-- a poll finds the outcome at home
found_home : (a b c d e f : Bool) → agreement a b c d e f && (d && not c && not b) ≡ true → d && not e && not c ≡ true
found_home = follows (λ a b c d e f. agreement a b c d e f && (d && not c && not b)) (λ a b c d e f. d && not e && not c) refl

-- where the waiter's or the settler's seat stands
module _ {A : Type 0} where
  pub first_or_second : (x y v : A) (id : ℕ) → get_elem? (x ∷ y ∷ []) id ≡ some v → ((id ≡ 0) × (x ≡ v)) ⊎ ((id ≡ 1) × (y ≡ v))
  first_or_second x y v zero e = inl (refl, some-injective x v e)
  first_or_second x y v (suc zero) e = inr (refl, some-injective y v e)
  first_or_second x y v (suc (suc id)) e = absurd (some-ne-none v (sym e))

  pub only_first : (x v : A) (id : ℕ) → get_elem? (x ∷ []) id ≡ some v → (id ≡ 0) × (x ≡ v)
  only_first x v zero e = (refl, some-injective x v e)
  only_first x v (suc id) e = absurd (some-ne-none v (sym e))

abbrev is_waiter : Role → Type 0
is_waiter Waiter = Unit {0}
is_waiter _ = ⊥

abbrev is_settler : Role → Type 0
is_settler Settler = Unit {0}
is_settler _ = ⊥

abbrev is_maker : Role → Type 0
is_maker Maker = Unit {0}
is_maker _ = ⊥

abbrev is_halved : Role → Type 0
is_halved WaiterToBe = Unit {0}
is_halved _ = ⊥

abbrev is_new : Role → Type 0
is_new SettlerToBe = Unit {0}
is_new _ = ⊥

module _ {P : Type 0} where
  abbrev Goal : (ℕ → ℕ) → (Seated P → ℕ → Seated P → Type 0) → State (CellSlot P) CellView → ℕ → Seated P → Type 0
  Goal f then s id me = (w : CellView) × (a : Act (CellSlot P)) × Valid s.homes me.1 a × FollowsRule (stepped s 0 (f (slice_index s.words 0)) id me.1 w a) × then me (slice_index s.words 0) (w, carried_after me.1 a)

  abbrev Lies : CellView → CellView → maybe.Option (CellSlot P) → maybe.Option (CellSlot P) → Type 0
  Lies w t h k = (w.role ≡ Waiter) × (agree w t ≡ true) × OutcomeLies w t t.role h × LiesIf (is_asleep w t) IsSleeper k × Recalls w t

  abbrev table : CellView → CellView → maybe.Option (CellSlot P) → maybe.Option (CellSlot P) → State (CellSlot P) CellView
  table w t h k = cell_state (number (word_bits w t)) h k (w ∷ t ∷ [])

  -- the second view is a settler's, new or not
  not_waiter : (w t : CellView) (r : Role) (h : maybe.Option (CellSlot P)) → OutcomeLies w t r h → is_waiter r → ⊥
  not_waiter w t Maker h o i = o
  not_waiter w t WaiterToBe h o i = o
  not_waiter w t SettlerToBe h o i = i
  not_waiter w t Waiter h o i = o
  not_waiter w t Settler h o i = i

  by_waiter : (f : ℕ → ℕ) (then : Seated P → ℕ → Seated P → Type 0) (s : State (CellSlot P) CellView) (id : ℕ) (me : Seated P) → me.0.role ≡ Waiter → FollowsRule s → get_elem? s.views id ≡ some me.0
      → ((w t : CellView) (h k : maybe.Option (CellSlot P)) → Lies w t h k → me.0 ≡ w → Goal f then (table w t h k) 0 (w, me.1)) → Goal f then s id me
  by_waiter f then s id me is (inl (inl e)) at go = let at' = subst (λ (x : State (CellSlot P) CellView). get_elem? x.views id ≡ some me.0) e at in
      absurd (subst is_maker (ap (λ (v : CellView). v.role) (only_first _ _ _ at').1 ∙ is) tt)
  by_waiter f then s id me is (inl (inr e)) at go = let at' = subst (λ (x : State (CellSlot P) CellView). get_elem? x.views id ≡ some me.0) e at in
      absurd (subst is_halved (ap (λ (v : CellView). v.role) (only_first _ _ _ at').1 ∙ is) tt)
  by_waiter f then s id me is (inr r) at go = let at' = subst (λ (x : State (CellSlot P) CellView). get_elem? x.views id ≡ some me.0) r.is at in
      ⊎_elim
      (λ (p : (id ≡ 0) × (r.waiter ≡ me.0)). subst (λ (x : State (CellSlot P) CellView × ℕ × CellView). Goal f then x.0 x.1 (x.2, me.1)) (λ i. (sym r.is i, sym p.0 i, p.1 i)) (go r.waiter r.settler r.outcome r.sleeper (r.waits, r.agreed, r.outcome_lies, r.sleeper_lies, r.recalls) (sym p.1)))
      (λ (p : (id ≡ 1) × (r.settler ≡ me.0)). absurd (not_waiter r.waiter r.settler r.settler.role r.outcome r.outcome_lies (subst is_waiter (sym (ap (λ (v : CellView). v.role) p.1 ∙ is)) tt)))
      (first_or_second r.waiter r.settler me.0 id at')

  by_second : (ro : Role) → (is_maker ro → ⊥) → (is_halved ro → ⊥) → (is_waiter ro → ⊥) → (f : ℕ → ℕ) (then : Seated P → ℕ → Seated P → Type 0) (s : State (CellSlot P) CellView) (id : ℕ) (me : Seated P) → me.0.role ≡ ro → FollowsRule s → get_elem? s.views id ≡ some me.0
      → ((w t : CellView) (h k : maybe.Option (CellSlot P)) → Lies w t h k → me.0 ≡ t → Goal f then (table w t h k) 1 (t, me.1)) → Goal f then s id me
  by_second ro nm nh nw f then s id me is (inl (inl e)) at go = let at' = subst (λ (x : State (CellSlot P) CellView). get_elem? x.views id ≡ some me.0) e at in
      absurd (nm (subst is_maker (ap (λ (v : CellView). v.role) (only_first _ _ _ at').1 ∙ is) tt))
  by_second ro nm nh nw f then s id me is (inl (inr e)) at go = let at' = subst (λ (x : State (CellSlot P) CellView). get_elem? x.views id ≡ some me.0) e at in
      absurd (nh (subst is_halved (ap (λ (v : CellView). v.role) (only_first _ _ _ at').1 ∙ is) tt))
  by_second ro nm nh nw f then s id me is (inr r) at go = let at' = subst (λ (x : State (CellSlot P) CellView). get_elem? x.views id ≡ some me.0) r.is at in
      ⊎_elim
      (λ (p : (id ≡ 0) × (r.waiter ≡ me.0)). absurd (nw (subst is_waiter (sym r.waits ∙ (ap (λ (v : CellView). v.role) p.1 ∙ is)) tt)))
      (λ (p : (id ≡ 1) × (r.settler ≡ me.0)). subst (λ (x : State (CellSlot P) CellView × ℕ × CellView). Goal f then x.0 x.1 (x.2, me.1)) (λ i. (sym r.is i, sym p.0 i, p.1 i)) (go r.waiter r.settler r.outcome r.sleeper (r.waits, r.agreed, r.outcome_lies, r.sleeper_lies, r.recalls) (sym p.1)))
      (first_or_second r.waiter r.settler me.0 id at')

-- the facts about Bools, in agreement's order: slept, left, had, ended, back, found SLEEPING
quiet_home : (a b c d e f : Bool) → agreement a b c d e f && not (d && not c) ≡ true → not (d && not e && not (c || d)) && not (d && not e && not c) ≡ true
quiet_home = follows (λ a b c d e f. agreement a b c d e f && not (d && not c)) (λ a b c d e f. not (d && not e && not (c || d)) && not (d && not e && not c)) refl

poll_agrees : (a b c d e f : Bool) → agreement a b c d e f && not b ≡ true → agreement a b (c || d) d e f ≡ true
poll_agrees = follows (λ a b c d e f. agreement a b c d e f && not b) (λ a b c d e f. agreement a b (c || d) d e f) refl

gone_home : (a b c d e f : Bool) → agreement a b c d e f && (d && not c && not b) ≡ true → not (d && not e && not (c || d)) ≡ true
gone_home = follows (λ a b c d e f. agreement a b c d e f && (d && not c && not b)) (λ a b c d e f. not (d && not e && not (c || d))) refl

had_if_ended : (a b c d e f : Bool) → agreement a b c d e f ≡ true → implies (c || d) d && implies d (c || d) ≡ true
had_if_ended = follows agreement (λ a b c d e f. implies (c || d) d && implies d (c || d)) refl

-- what the views recall after a step of the waiter's that sets these bits
recalls_wait : (sl le : Bool) (w t : CellView) → Recalls w t → agree w t ≡ true → is_within (word_bits w t) (bits sl t.set.ended le) ≡ true
    → Recalls (stepped_to w (bits sl w.set.ended le) (word_bits w t) (w.had || t.set.ended)) t
recalls_wait sl le w t r agreed grown = record {
  back = r.back;
  had = same_bool (w.had || t.set.ended) t.set.ended (had_if_ended w.set.sleeping w.set.left w.had t.set.ended t.had t.found.sleeping agreed);
  once = r.once;
  waiter_found = grown;
  settler_found = within_trans t.found (word_bits w t) (bits sl t.set.ended le) r.settler_found grown;
  waiter_set = r.waiter_set;
  settler_set = r.settler_set;
  settler_new = r.settler_new;
}

-- and after the settler's
recalls_settle : (w t : CellView) → Recalls w t → t.set.ended ≡ false → Recalls w (after_settle t (word_bits w t))
recalls_settle w t r going = let grown : is_within (word_bits w t) (bits w.set.sleeping true w.set.left) ≡ true = within_all (word_bits w t) (bits w.set.sleeping true w.set.left) (implied w.set.sleeping w.set.sleeping (λ e. e)) (implied t.set.ended true (λ e. refl)) (implied w.set.left w.set.left (λ e. e)) in record {
  back = refl;
  had = r.had;
  once = let none_yet = r.once ∙ ap (λ (b : Bool). cond b 1 0) going in omega (arith, none_yet);
  waiter_found = within_trans w.found (word_bits w t) (bits w.set.sleeping true w.set.left) r.waiter_found grown;
  settler_found = grown;
  waiter_set = r.waiter_set;
  settler_set = r.settler_set;
  settler_new = λ e. absurd (true≢false e);
}

module _ {P : Type 0} where
  -- once the settler ended, its role is known
  settled_lies : (w t : CellView) (r : Role) (h : maybe.Option (CellSlot P)) → OutcomeLies w t r h → t.set.ended ≡ true → LiesIf (outcome_is_home w t) IsOutcome h
  settled_lies w t Maker h o e = absurd o
  settled_lies w t WaiterToBe h o e = absurd o
  settled_lies w t SettlerToBe h o e = absurd (true≢false (sym e ∙ ap (λ (v : CellView). v.set.ended) o.1))
  settled_lies w t Waiter h o e = absurd o
  settled_lies w t Settler h o e = o

  -- the outcome after a step of the waiter's
  restate : (w w' t : CellView) (r : Role) (h h' : maybe.Option (CellSlot P)) → OutcomeLies w t r h → t.set.ended ≡ true → LiesIf (outcome_is_home w' t) IsOutcome h' → OutcomeLies w' t r h'
  restate w w' t Maker h h' o e l = o
  restate w w' t WaiterToBe h h' o e l = o
  restate w w' t SettlerToBe h h' o e l = absurd (true≢false (sym e ∙ ap (λ (v : CellView). v.set.ended) o.1))
  restate w w' t Waiter h h' o e l = o
  restate w w' t Settler h h' o e l = l

  same_lies : (w w' t : CellView) (r : Role) (h : maybe.Option (CellSlot P)) → OutcomeLies w t r h → outcome_is_home w t ≡ outcome_is_home w' t → OutcomeLies w' t r h
  same_lies w w' t Maker h o e = o
  same_lies w w' t WaiterToBe h o e = o
  same_lies w w' t SettlerToBe h o e = o
  same_lies w w' t Waiter h o e = o
  same_lies w w' t Settler h o e = subst (λ b. LiesIf b IsOutcome h) e o

  -- a waiter's step other than sleep: it sets these bits of its own, and the word becomes g of what it was
  looks : (sl le : Bool) (g : ℕ → ℕ) (then_ : Seated P → ℕ → Seated P → Type 0) (w t : CellView) (h k : maybe.Option (CellSlot P)) → Lies w t h k → w.set.left ≡ false → (c : List (ℕ × CellSlot P))
      → sl ≡ w.set.sleeping → g (number (word_bits w t)) ≡ number (bits sl t.set.ended le)
      → agreement sl le (w.had || t.set.ended) t.set.ended t.had t.found.sleeping ≡ true
      → is_within (word_bits w t) (bits sl t.set.ended le) ≡ true
      → ((d : List (ℕ × CellSlot P)) → TookIf (t.set.ended && not w.had) 0 IsOutcome c d → then_ (w, c) (number (word_bits w t)) (stepped_to w (bits sl w.set.ended le) (word_bits w t) (w.had || t.set.ended), d))
      → Goal g then_ (table w t h k) 0 (w, c)
  looks sl le g then_ w t h k l stays c asleep word agrees grown tells =
      let w' : CellView = stepped_to w (bits sl w.set.ended le) (word_bits w t) (w.had || t.set.ended) in
      let pre : agreement w.set.sleeping w.set.left w.had t.set.ended t.had t.found.sleeping ≡ true = l.1 in
      bool_case (t.set.ended && not w.had)
      (λ e. let home = found_home w.set.sleeping w.set.left w.had t.set.ended t.had t.found.sleeping (both _ _ pre (both _ _ e (false_not _ stays))) in
      let over = and_left _ _ e in
      let x = subst (λ b. LiesIf b IsOutcome h) home (settled_lies w t t.role h l.2 over) in
      let gone = not_true _ (gone_home w.set.sleeping w.set.left w.had t.set.ended t.had t.found.sleeping (both _ _ pre (both _ _ e (false_not _ stays)))) in (
        w',
        takes 0 (Some x.0),
        ap some x.1,
        inr record {
          waiter = w';
          settler = t;
          outcome = none;
          sleeper = k;
          is = ap (λ (n : ℕ). cell_state n none k (w' ∷ t ∷ [])) word;
          waits = l.0;
          agreed = agrees;
          outcome_lies = restate w w' t t.role h none l.2 over (subst (λ b. LiesIf {P = P} b IsOutcome none) (sym gone) (refl {A = maybe.Option (CellSlot P)}));
          sleeper_lies = subst (λ b. LiesIf (b && not t.set.ended) IsSleeper k) (sym asleep) l.3;
          recalls = recalls_wait sl le w t l.4 l.1 grown;
        },
        tells _ (subst (λ b. TookIf b 0 IsOutcome c ((0, Some x.0) ∷ c)) (sym e) (x.0, x.2, refl)),
      ))
      (λ e. let quiet = quiet_home w.set.sleeping w.set.left w.had t.set.ended t.had t.found.sleeping (both _ _ pre (false_not _ e)) in (
        w',
        keeps,
        tt,
        inr record {
          waiter = w';
          settler = t;
          outcome = h;
          sleeper = k;
          is = ap (λ (n : ℕ). cell_state n h k (w' ∷ t ∷ [])) word;
          waits = l.0;
          agreed = agrees;
          outcome_lies = same_lies w w' t t.role h l.2 (not_true _ (and_right _ _ quiet) ∙ sym (not_true _ (and_left _ _ quiet)));
          sleeper_lies = subst (λ b. LiesIf (b && not t.set.ended) IsSleeper k) (sym asleep) l.3;
          recalls = recalls_wait sl le w t l.4 l.1 grown;
        },
        tells _ (subst (λ b. TookIf b 0 IsOutcome c c) (sym e) refl),
      ))

  -- a poll
  pub polls : (slots id : ℕ) (me : Seated P) → me.0.role ≡ Waiter → me.0.set.left ≡ false → Allows FollowsRule slots id me 0 (λ n. n) (polled (step slots 0 0 0 none) me)
  polls slots id me is unspent s kept long at small = by_waiter (λ n. n) (polled (step slots 0 0 0 none)) s id me is kept at (λ w t h k l same.
      let stays : w.set.left ≡ false = ap (λ (v : CellView). v.set.left) (sym same) ∙ unspent in
      looks w.set.sleeping w.set.left (λ n. n) (polled (step slots 0 0 0 none)) w t h k l stays me.1 refl refl
      (poll_agrees w.set.sleeping w.set.left w.had t.set.ended t.had t.found.sleeping (both _ _ l.1 (false_not _ stays)))
      (within_all (word_bits w t) (word_bits w t) (implied w.set.sleeping w.set.sleeping (λ e. e)) (implied t.set.ended t.set.ended (λ e. e)) (implied w.set.left w.set.left (λ e. e)))
      (λ d took. (word_bits w t, refl, refl, took)))

module _ {P : Type 0} where
  pub took_outcome : (k : ℕ) (kind : Held P → Type 0) (b : Bool) (c d : List (ℕ × CellSlot P)) → b ≡ true → TookIf b k kind c d → Carries k kind d
  took_outcome k kind b c d e t = let x = subst (λ v. TookIf v k kind c d) e t in (x.0, x.1, x.2 ∙ ap (λ l. (k, Some x.0) ∷ l) (sym (ap rest x.2)))

  -- a step of the waiter's that found ENDED where the outcome was not had yet
  pub finds : (had : Bool) (f : Bits) (r : ℕ) (c d : List (ℕ × CellSlot P)) → r ≡ number f → (bit_and r 2 ≡ 0 → ⊥) → had ≡ false → TookIf (f.ended && not had) 0 IsOutcome c d → Carries 0 IsOutcome d
  finds had f r c d word found not_had took = let e : f.ended ≡ true = ended_set f.sleeping f.ended f.left (subst (λ (x : ℕ). bit_and x 2 ≡ 0 → ⊥) word found) in
      took_outcome 0 IsOutcome _ c d (both _ _ e (false_not _ not_had)) took

leave_agrees : (a b c d e f : Bool) → agreement a b c d e f && not b ≡ true → agreement a true (c || d) d e f ≡ true
leave_agrees = follows (λ a b c d e f. agreement a b c d e f && not b) (λ a b c d e f. agreement a true (c || d) d e f) refl

sleep_agrees : (a b c d e f : Bool) → agreement a b c d e f && (not a && not b && not c) ≡ true → agreement true b (c || d) d e f ≡ true
sleep_agrees = follows (λ a b c d e f. agreement a b c d e f && (not a && not b && not c)) (λ a b c d e f. agreement true b (c || d) d e f) refl

settle_agrees : (a b c d e f : Bool) → agreement a b c d e f && not d ≡ true → agreement a b c true b a ≡ true
settle_agrees = follows (λ a b c d e f. agreement a b c d e f && not d) (λ a b c d e f. agreement a b c true b a) refl

pub not_had : (a b c d e f : Bool) → agreement a b c d e f && not d ≡ true → not c ≡ true
not_had = follows (λ a b c d e f. agreement a b c d e f && not d) (λ a b c d e f. not c) refl

module _ {P : Type 0} where
  -- a leave
  pub leaves : (slots id : ℕ) (me : Seated P) → me.0.role ≡ Waiter → me.0.set.left ≡ false → Allows FollowsRule slots id me 0 (λ n. bit_or n 4) (quit (step slots 0 4 0 none) me)
  leaves slots id me is unspent s kept long here small = by_waiter (λ n. bit_or n 4) (quit (step slots 0 4 0 none)) s id me is kept here (λ w t h k l same.
      let stays : w.set.left ≡ false = ap (λ (v : CellView). v.set.left) (sym same) ∙ unspent in
      looks w.set.sleeping true (λ n. bit_or n 4) (quit (step slots 0 4 0 none)) w t h k l stays me.1 refl (or_left w.set.sleeping t.set.ended w.set.left)
      (leave_agrees w.set.sleeping w.set.left w.had t.set.ended t.had t.found.sleeping (both _ _ l.1 (false_not _ stays)))
      (within_all (word_bits w t) (bits w.set.sleeping t.set.ended true) (implied w.set.sleeping w.set.sleeping (λ e. e)) (implied t.set.ended t.set.ended (λ e. e)) (implied w.set.left true (λ e. refl)))
      (λ d took. (word_bits w t, refl, refl, took)))

  lies_false : (b : Bool) (kind : Held P → Type 0) (h : maybe.Option (CellSlot P)) → b ≡ false → LiesIf b kind h → h ≡ none
  lies_false b kind h e l = subst (λ v. LiesIf v kind h) e l

  lies_true : (b : Bool) (kind : Held P → Type 0) (h : maybe.Option (CellSlot P)) → b ≡ true → LiesIf b kind h → LiesIf true kind h
  lies_true b kind h e l = subst (λ v. LiesIf v kind h) e l

  out : (b : Bool) (kind : Held P → Type 0) (h : maybe.Option (CellSlot P)) → b ≡ false → h ≡ none → LiesIf b kind h
  out b kind h e n = subst (λ v. LiesIf v kind h) (sym e) n

  here_with : (b : Bool) (kind : Held P → Type 0) (h : maybe.Option (CellSlot P)) → b ≡ true → LiesIf true kind h → LiesIf b kind h
  here_with b kind h e n = subst (λ v. LiesIf v kind h) (sym e) n

  sleep : (slots : ℕ) (x : Held P) → IsSleeper x → (w t : CellView) (h k : maybe.Option (CellSlot P)) → Lies w t h k → w.set.left ≡ false → w.set.sleeping ≡ false → w.had ≡ false → Goal (λ n. bit_or n 1) (slept (step slots 0 1 0 none)) (table w t h k) 0 (w, (1, Some x) ∷ [])
  sleep slots x sleeper w t h k l stays up none_had =
      let w' : CellView = after_sleep w (word_bits w t) in
      let agrees = sleep_agrees w.set.sleeping w.set.left w.had t.set.ended t.had t.found.sleeping (both _ _ l.1 (both _ _ (both _ _ (false_not _ up) (false_not _ stays)) (false_not _ none_had))) in
      let out_k : k ≡ none = lies_false _ IsSleeper k (ap (λ b. b && not t.set.ended) up) l.3 in
      let grown : is_within (word_bits w t) (bits true t.set.ended w.set.left) ≡ true = within_all (word_bits w t) (bits true t.set.ended w.set.left) (implied w.set.sleeping true (λ e. refl)) (implied t.set.ended t.set.ended (λ e. e)) (implied w.set.left w.set.left (λ e. e)) in
      bool_case t.set.ended
      (λ e. let more = both _ _ (both _ _ e (false_not _ none_had)) (false_not _ stays) in
      let home = found_home w.set.sleeping w.set.left w.had t.set.ended t.had t.found.sleeping (both _ _ l.1 more) in
      let y = lies_true _ IsOutcome h home (settled_lies w t t.role h l.2 e) in
      let gone = not_true _ (gone_home w.set.sleeping w.set.left w.had t.set.ended t.had t.found.sleeping (both _ _ l.1 more)) in (
        w',
        takes 0 (Some y.0),
        ap some y.1,
        inr record {
          waiter = w';
          settler = t;
          outcome = none;
          sleeper = k;
          is = ap (λ (n : ℕ). cell_state n none k (w' ∷ t ∷ [])) (or_sleeping w.set.sleeping t.set.ended w.set.left);
          waits = l.0;
          agreed = agrees;
          outcome_lies = restate w w' t t.role h none l.2 e (out _ IsOutcome none gone (refl {A = maybe.Option (CellSlot P)}));
          sleeper_lies = out _ IsSleeper k (ap not e) out_k;
          recalls = recalls_wait true w.set.left w t l.4 l.1 grown;
        },
        (word_bits w t, refl, refl, subst (λ b. TookIf b 0 IsOutcome (cond b ((1, Some x) ∷ []) []) ((0, Some y.0) ∷ (1, Some x) ∷ [])) (sym e) (y.0, y.2, refl)),
      ))
      (λ e. let quiet = quiet_home w.set.sleeping w.set.left w.had t.set.ended t.had t.found.sleeping (both _ _ l.1 (false_not _ (ap (λ b. b && not w.had) e))) in (
        w',
        gives,
        tt,
        inr record {
          waiter = w';
          settler = t;
          outcome = h;
          sleeper = some (Some x);
          is = ap (λ (n : ℕ). cell_state n h (some (Some x)) (w' ∷ t ∷ [])) (or_sleeping w.set.sleeping t.set.ended w.set.left);
          waits = l.0;
          agreed = agrees;
          outcome_lies = same_lies w w' t t.role h l.2 (not_true _ (and_right _ _ quiet) ∙ sym (not_true _ (and_left _ _ quiet)));
          sleeper_lies = here_with _ IsSleeper (some (Some x)) (ap not e) (x, refl, sleeper);
          recalls = recalls_wait true w.set.left w t l.4 l.1 grown;
        },
        (word_bits w t, refl, refl, subst (λ b. TookIf b 0 IsOutcome (cond b ((1, Some x) ∷ []) []) []) (sym e) (refl {A = List (ℕ × CellSlot P)})),
      ))

  end : (slots : ℕ) (x : Held P) → IsOutcome x → (w t : CellView) (h k : maybe.Option (CellSlot P)) → Lies w t h k → t.role ≡ Settler → t.set.ended ≡ false → Goal (λ n. bit_or n 2) (settled (step slots 0 2 0 none)) (table w t h k) 1 (t, (0, Some x) ∷ [])
  end slots x outcome w t h k l role going =
      let t' : CellView = after_settle t (word_bits w t) in
      let out_h : h ≡ none = lies_false _ IsOutcome h (ap (λ b. b && not t.had && not w.had) going) (subst (λ (r : Role). OutcomeLies w t r h) role l.2) in
      let agrees = settle_agrees w.set.sleeping w.set.left w.had t.set.ended t.had t.found.sleeping (both _ _ l.1 (false_not _ going)) in
      let unhad = not_had w.set.sleeping w.set.left w.had t.set.ended t.had t.found.sleeping (both _ _ l.1 (false_not _ going)) in
      let word = or_ended w.set.sleeping t.set.ended w.set.left in
      let silent : w.set.sleeping && false ≡ false = and_false w.set.sleeping in
      let runs : (h' k' : maybe.Option (CellSlot P)) → LiesIf (not w.set.left && not w.had) IsOutcome h' → k' ≡ none → FollowsRule (cell_state (bit_or (number (word_bits w t)) 2) h' k' (w ∷ t' ∷ [])) = λ h' k' o e. inr record {
        waiter = w;
        settler = t';
        outcome = h';
        sleeper = k';
        is = ap (λ (n : ℕ). cell_state n h' k' (w ∷ t' ∷ [])) word;
        waits = l.0;
        agreed = agrees;
        outcome_lies = subst (λ (r : Role). OutcomeLies w t' r h') (sym role) o;
        sleeper_lies = out _ IsSleeper k' silent e;
        recalls = recalls_settle w t l.4 going;
      } in
      bool_case w.set.left
      (λ left. bool_case w.set.sleeping
      (λ slept_. let y = lies_true _ IsSleeper k (both _ _ slept_ (false_not _ going)) l.3 in (
        t',
        takes 1 (Some y.0),
        ap some y.1,
        runs h none (out _ IsOutcome h (ap (λ b. not b && not w.had) left) out_h) refl,
        (word_bits w t, refl, refl, subst (λ (z : Bool × Bool). TookIf z.0 1 IsSleeper (cond z.1 ((0, Some x) ∷ []) []) ((1, Some y.0) ∷ (0, Some x) ∷ [])) (λ i. (sym slept_ i, sym left i)) (y.0, y.2, refl {A = List (ℕ × CellSlot P)})),
      ))
      (λ up. (
        t',
        keeps,
        tt,
        runs h k (out _ IsOutcome h (ap (λ b. not b && not w.had) left) out_h) (lies_false _ IsSleeper k (ap (λ b. b && not t.set.ended) up) l.3),
        (word_bits w t, refl, refl, subst (λ (z : Bool × Bool). TookIf z.0 1 IsSleeper (cond z.1 ((0, Some x) ∷ []) []) ((0, Some x) ∷ [])) (λ i. (sym up i, sym left i)) (refl {A = List (ℕ × CellSlot P)})),
      )))
      (λ stays. let lies = here_with (not w.set.left && not w.had) IsOutcome (some (Some x)) (both _ _ (ap not stays) unhad) (x, refl {A = maybe.Option (CellSlot P)}, outcome) in
      bool_case w.set.sleeping
      (λ slept_. let y = lies_true _ IsSleeper k (both _ _ slept_ (false_not _ going)) l.3 in (
        t',
        chain gives (takes 1 (Some y.0)),
        (tt, ap some y.1),
        runs (some (Some x)) none lies refl,
        (word_bits w t, refl, refl, subst (λ (z : Bool × Bool). TookIf z.0 1 IsSleeper (cond z.1 ((0, Some x) ∷ []) []) ((1, Some y.0) ∷ [])) (λ i. (sym slept_ i, sym stays i)) (y.0, y.2, refl {A = List (ℕ × CellSlot P)})),
      ))
      (λ up. (
        t',
        gives,
        tt,
        runs (some (Some x)) k lies (lies_false _ IsSleeper k (ap (λ b. b && not t.set.ended) up) l.3),
        (word_bits w t, refl, refl, subst (λ (z : Bool × Bool). TookIf z.0 1 IsSleeper (cond z.1 ((0, Some x) ∷ []) []) []) (λ i. (sym up i, sym stays i)) (refl {A = List (ℕ × CellSlot P)})),
      )))

  -- a sleep, with the sleeper in the seat's slot
  pub falls_asleep : (slots id : ℕ) (me : Seated P) (x : Held P) → IsSleeper x → me.1 ≡ (1, Some x) ∷ [] → me.0.role ≡ Waiter → me.0.set.sleeping ≡ false → me.0.set.left ≡ false → me.0.had ≡ false
      → Allows FollowsRule slots id me 0 (λ n. bit_or n 1) (slept (step slots 0 1 0 none) me)
  falls_asleep slots id me x sleeper carries is awake unspent empty s kept long here small = by_waiter (λ n. bit_or n 1) (slept (step slots 0 1 0 none)) s id me is kept here (λ w t h k l same.
      let stays : w.set.left ≡ false = ap (λ (v : CellView). v.set.left) (sym same) ∙ unspent in
      let up : w.set.sleeping ≡ false = ap (λ (v : CellView). v.set.sleeping) (sym same) ∙ awake in
      let none_had : w.had ≡ false = ap (λ (v : CellView). v.had) (sym same) ∙ empty in
      subst (λ (c : List (ℕ × CellSlot P)). Goal (λ n. bit_or n 1) (slept (step slots 0 1 0 none)) (table w t h k) 0 (w, c)) (sym carries) (sleep slots x sleeper w t h k l stays up none_had))

  -- a settle, with the outcome in the seat's slot
  pub settles : (slots id : ℕ) (me : Seated P) (x : Held P) → IsOutcome x → me.1 ≡ (0, Some x) ∷ [] → me.0.role ≡ Settler → me.0.set.ended ≡ false
      → Allows FollowsRule slots id me 0 (λ n. bit_or n 2) (settled (step slots 0 2 0 none) me)
  settles slots id me x outcome carries is unspent s kept long here small = by_second Settler (λ e. e) (λ e. e) (λ e. e) (λ n. bit_or n 2) (settled (step slots 0 2 0 none)) s id me is kept here (λ w t h k l same.
      subst (λ (c : List (ℕ × CellSlot P)). Goal (λ n. bit_or n 2) (settled (step slots 0 2 0 none)) (table w t h k) 1 (t, c)) (sym carries)
      (end slots x outcome w t h k l (ap (λ (v : CellView). v.role) (sym same) ∙ is) (ap (λ (v : CellView). v.set.ended) (sym same) ∙ unspent)))

  -- the making of a cell: the waiter's slot is taken, then the view is cut, then the settler's slot is taken
  pub halves : (slots id : ℕ) (me : Seated P) → me ≡ (fresh Maker, []) → Allows FollowsRule slots id me 0 (λ n. n) (waiter_began (step slots 0 0 0 none) me)
  halves slots id me is s kept long here small = subst (λ (m : Seated P). Goal (λ n. n) (waiter_began (step slots 0 0 0 none)) s id m) (sym is)
      (made s id kept (subst (λ (m : Seated P). get_elem? s.views id ≡ some m.0) is here))
    where
      made : (s : State (CellSlot P) CellView) (id : ℕ) → FollowsRule s → get_elem? s.views id ≡ some (fresh Maker) → Goal (λ n. n) (waiter_began (step slots 0 0 0 none)) s id (fresh Maker, [])
      made s id (inl (inl e)) at = let p = only_first _ _ _ (subst (λ (x : State (CellSlot P) CellView). get_elem? x.views id ≡ some (fresh Maker)) e at) in
          subst (λ (x : State (CellSlot P) CellView × ℕ). Goal (λ n. n) (waiter_began (step slots 0 0 0 none)) x.0 x.1 (fresh Maker, [])) (λ i. (sym e i, sym p.0 i))
          (fresh WaiterToBe, takes 1 None, refl, inl (inr refl), refl)
      made s id (inl (inr e)) at = let p = only_first _ _ _ (subst (λ (x : State (CellSlot P) CellView). get_elem? x.views id ≡ some (fresh Maker)) e at) in
          absurd (subst is_halved (ap (λ (v : CellView). v.role) p.1) tt)
      made s id (inr r) at = let at' = subst (λ (x : State (CellSlot P) CellView). get_elem? x.views id ≡ some (fresh Maker)) r.is at in
          ⊎_elim
          (λ (p : (id ≡ 0) × (r.waiter ≡ fresh Maker)). absurd (subst is_waiter (sym r.waits ∙ ap (λ (v : CellView). v.role) p.1) tt))
          (λ (p : (id ≡ 1) × (r.settler ≡ fresh Maker)). absurd (subst (λ (ro : Role). OutcomeLies r.waiter r.settler ro r.outcome) (ap (λ (v : CellView). v.role) p.1) r.outcome_lies))
          (first_or_second r.waiter r.settler (fresh Maker) id at')

  pub begins : (slots id : ℕ) (me : Seated P) → me ≡ (fresh SettlerToBe, []) → Allows FollowsRule slots id me 0 (λ n. n) (settler_began (step slots 0 0 0 none) me)
  begins slots id me is s kept long here small = by_second SettlerToBe (λ e. e) (λ e. e) (λ e. e) (λ n. n) (settler_began (step slots 0 0 0 none)) s id me (ap (λ (m : Seated P). m.0.role) is) kept here (λ w t h k l same.
      let is_new_ : t ≡ fresh SettlerToBe = sym same ∙ ap (λ (m : Seated P). m.0) is in
      let at_home : h ≡ some None = (subst (λ (v : CellView). OutcomeLies w v v.role h) is_new_ l.2).0 in
      let agrees : agree w (fresh SettlerToBe) ≡ true = subst (λ (v : CellView). agree w v ≡ true) is_new_ l.1 in
      let recalled : Recalls w (fresh SettlerToBe) = subst (λ (v : CellView). Recalls w v) is_new_ l.4 in
      let asleep : LiesIf (is_asleep w (fresh SettlerToBe)) IsSleeper k = subst (λ (v : CellView). LiesIf (is_asleep w v) IsSleeper k) is_new_ l.3 in
      subst (λ (x : CellView × List (ℕ × CellSlot P)). Goal (λ n. n) (settler_began (step slots 0 0 0 none)) (table w x.0 h k) 1 (x.0, x.1)) (λ i. (sym is_new_ i, (sym is i).1)) (
        fresh Settler,
        takes 0 None,
        ap some at_home,
        inr record { waiter = w; settler = fresh Settler; outcome = none; sleeper = k; is = refl; waits = l.0; agreed = agrees; outcome_lies = refl; sleeper_lies = asleep; recalls = record { back = refl; had = recalled.had; once = refl; waiter_found = recalled.waiter_found; settler_found = recalled.settler_found; waiter_set = recalled.waiter_set; settler_set = recalled.settler_set; settler_new = λ e. refl } },
        refl,
      ))

module _ {P : Type 0} where
  headed : (x : ℕ × CellSlot P) (r l : List (ℕ × CellSlot P)) → l ≡ x ∷ r → l ≡ x ∷ rest l
  headed x r l e = e ∙ ap (λ (m : List (ℕ × CellSlot P)). x ∷ m) (sym (ap rest e))

  -- the outcome lies on top of the settler's slots where the waiter has left: at once, or once the sleeper's slot has gone behind
  pub back_plain : (x : Held P) (f : Bits) (r : ℕ) (m d b : List (ℕ × CellSlot P)) → r ≡ number f → (bit_and r 4 ≡ 0 → ⊥) → bit_and r 1 ≡ 0 → m ≡ (0, Some x) ∷ b → TookIf f.sleeping 1 IsSleeper (cond f.left m (rest m)) d → d ≡ (0, Some x) ∷ rest d
  back_plain x f r m d b word left quiet is t =
      let up = sleeping_unset f.sleeping f.ended f.left (subst (λ (y : ℕ). bit_and y 1 ≡ 0) word quiet) in
      let l = left_of f r word left in
      let same = subst (λ (z : Bool × Bool). TookIf z.0 1 IsSleeper (cond z.1 m (rest m)) d) (λ i. (up i, l i)) t in
      headed (0, Some x) b d (same ∙ is)

  pub back_turned : (x : Held P) (f : Bits) (r : ℕ) (m d b e : List (ℕ × CellSlot P)) → r ≡ number f → (bit_and r 4 ≡ 0 → ⊥) → (bit_and r 1 ≡ 0 → ⊥) → m ≡ (0, Some x) ∷ b → TookIf f.sleeping 1 IsSleeper (cond f.left m (rest m)) d
      → e ≡ turned ((1, None) ∷ rest d) → e ≡ (0, Some x) ∷ rest e
  back_turned x f r m d b e word left quiet is t turned_ =
      let s = set_of f r word quiet in
      let l = left_of f r word left in
      let same = subst (λ (z : Bool × Bool). TookIf z.0 1 IsSleeper (cond z.1 m (rest m)) d) (λ i. (s i, l i)) t in
      headed (0, Some x) (b ++ (1, None) ∷ []) e (turned_ ∙ ap (λ (y : List (ℕ × CellSlot P)). turned ((1, None) ∷ rest y)) same.2 ∙ ap (λ (y : List (ℕ × CellSlot P)). turned ((1, None) ∷ y)) is)
