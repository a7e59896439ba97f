-- The law of a cell, from the first places of its steps.
use Rattle.kanal_cell.proofs.Common.{◌≡◌, ℕ, zero, suc, ◌+◌, ◌<◌, ◌≤◌, Bool, true, false, not, ◌&&◌, ◌||◌, cond, true≢false, ltb, eqb, ◌⊎◌, inl, inr, ⊎_elim, List, [], ◌∷◌, ◌++◌, length, get_or, take, drop, refl, sym, ap, ◌∙◌, subst, Option, Some, None, arith, lt-ltb, le-ltb, ltb-true, ltb-false, eq-eqb, eqb-true, slice_get, dite, dec_lt, take_all, take-take, take_more, CellCore, CellStep, Sleep, Settle, Poll, Leave, IsLeft, CellReply, Slept, Outcome, Pending, Settled, Left, Flag, Spent, Owner, Nowhere, Home, empty, cell_reply, cell_after, is_sleep, is_settle, is_leave, looks, first, first_sleep, first_settle, first_leave, takes_at, taker, settle_outcome, outcome, is_late, told_at, told_there, cell_reply_at, owner_after}
use Rattle.std.proofs.Math.ListN.{take-append-drop}
use Rattle.kanal_cell.specs.declared.signal.steps.Owner.TheVariants.{Waiter, Settler}
use Rattle.kanal_cell.specs.CellLaw.{Makes, Brings, to_waiter, to_settler, gives, OwnedAsTold, IsLawful, CellLaw}
use Rattle.kanal_cell.proofs.CellBools.{and_left, and_right, both, bool_case, or_off_left, or_off_right, not_true}
use Rattle.kanal_cell.proofs.CellPlaces.{found, up, down, get_length, StateAt, starts, state_kept, answers, leave_taken, sleep_takes}

-- The cell after a list of steps.
abbrev after : CellCore → List CellStep → CellCore
after c [] = c
after c (x ∷ xs) = after (cell_after c x) xs

after_more : (c : CellCore) (xs : List CellStep) (y : CellStep) → after c (xs ++ y ∷ []) ≡ cell_after (after c xs) y
after_more c [] y = refl
after_more c (x ∷ xs) y = after_more (cell_after c x) xs y

after_append : (c : CellCore) (xs ys : List CellStep) → after c (xs ++ ys) ≡ after (after c xs) ys
after_append c [] ys = refl
after_append c (x ∷ xs) ys = after_append (cell_after c x) xs ys

reached : (steps : List CellStep) (k : ℕ) → k ≤ length steps → StateAt steps k (after empty (take k steps))
reached steps zero h = starts steps
reached steps (suc k) h = let n : suc k ≡ k + 1 = omega arith in let near : k < length steps = omega arith in
    let one : after empty (take (k + 1) steps) ≡ cell_after (after empty (take k steps)) (get_or steps k Sleep) = ap (after empty) (take_more steps k Sleep near) ∙ after_more empty (take k steps) (get_or steps k Sleep) in
    subst (λ m. StateAt steps m (after empty (take m steps))) (sym n) (state_kept steps k Sleep (after empty (take k steps)) (after empty (take (k + 1) steps)) near (reached steps k (omega arith)) one)

ending : (steps : List CellStep) → StateAt steps (length steps) (after empty steps)
ending steps = subst (λ ys. StateAt steps (length steps) (after empty ys)) (take_all (length steps) steps (omega arith)) (reached steps (length steps) (omega arith))

-- A bit that is set stays.
abbrev Below : CellCore → CellCore → Type 0
Below c d = (c.sleeping ≡ true → d.sleeping ≡ true) × (c.ended ≡ true → d.ended ≡ true) × (c.left ≡ true → d.left ≡ true)

kept_if : (b : Bool) (c d : CellCore) → Below c d → Below c (cond b c d)
kept_if true c d h = ((λ e. e), (λ e. e), (λ e. e))
kept_if false c d h = h

below_next : (c : CellCore) (x : CellStep) → Below c (cell_after c x)
below_next c Sleep = kept_if (c.sleeping || c.left || c.had) c _ ((λ e. refl), (λ e. e), (λ e. e))
below_next c (Settle p) = kept_if c.ended c _ ((λ e. e), (λ e. refl), (λ e. e))
below_next c Poll = kept_if c.left c _ ((λ e. e), (λ e. e), (λ e. e))
below_next c Leave = kept_if c.left c _ ((λ e. e), (λ e. e), (λ e. refl))
below_next c IsLeft = ((λ e. e), (λ e. e), (λ e. e))

below_after : (c : CellCore) (xs : List CellStep) → Below c (after c xs)
below_after c [] = ((λ e. e), (λ e. e), (λ e. e))
below_after c (x ∷ xs) = let a = below_next c x in let b = below_after (cell_after c x) xs in ((λ e. b.0 (a.0 e)), (λ e. b.1 (a.1 e)), (λ e. b.2 (a.2 e)))

cut_below : (steps : List CellStep) (n m : ℕ) → n ≤ m → Below (after empty (take n steps)) (after empty (take m steps))
cut_below steps n m h = let ys = take m steps in
    let whole : after empty ys ≡ after (after empty (take n steps)) (drop n ys) = ap (after empty) (sym (take-append-drop n ys)) ∙ after_append empty (take n ys) (drop n ys) ∙ ap (λ zs. after (after empty zs) (drop n ys)) (take-take n m steps h) in
    subst (λ d. Below (after empty (take n steps)) d) (sym whole) (below_after (after empty (take n steps)) (drop n ys))

-- The replies of a cut.
get_take : (n : ℕ) (xs : List CellStep) (k : ℕ) → k < n → slice_get (take n xs) k ≡ slice_get xs k
get_take zero xs k h = absurd (omega arith)
get_take (suc n) [] k h = refl
get_take (suc n) (x ∷ xs) zero h = refl
get_take (suc n) (x ∷ xs) (suc k) h = get_take n xs k (omega arith)

some_or : (o : Option CellStep) → (o ≡ None) ⊎ ((x : CellStep) × (o ≡ Some x))
some_or None = inl refl
some_or (Some x) = inr (x, refl)

reply_of : (steps : List CellStep) (k : ℕ) (x : CellStep) → slice_get steps k ≡ Some x → cell_reply_at steps k ≡ Some (told_at steps k x)
reply_of steps k x e = ap (told_there steps k) e

no_reply : (steps : List CellStep) (k : ℕ) → slice_get steps k ≡ None → cell_reply_at steps k ≡ None
no_reply steps k e = ap (told_there steps k) e

reply_by_state : (steps : List CellStep) (k : ℕ) (x : CellStep) → slice_get steps k ≡ Some x → cell_reply_at steps k ≡ Some (cell_reply (after empty (take k steps)) x)
reply_by_state steps k x e = let near = get_length steps k x e in
    reply_of steps k x e ∙ ap Some (answers steps k x e (after empty (take k steps)) (reached steps k (omega (arith, near))))

replies_stay_ : (steps : List CellStep) (n k : ℕ) → k < n → cell_reply_at (take n steps) k ≡ cell_reply_at steps k
replies_stay_ steps n k h = ⊎_elim
    (λ (e : slice_get steps k ≡ None). no_reply (take n steps) k (get_take n steps k h ∙ e) ∙ sym (no_reply steps k e))
    (λ (w : (x : CellStep) × (slice_get steps k ≡ Some x)). reply_by_state (take n steps) k w.0 (get_take n steps k h ∙ w.1)
    ∙ ap (λ ys. Some (cell_reply (after empty ys) w.0)) (take-take k n steps (omega arith)) ∙ sym (reply_by_state steps k w.0 w.1))
    (some_or (slice_get steps k))

-- Which step a test lets through.
sleep_is : (x : CellStep) → is_sleep x ≡ true → x ≡ Sleep
sleep_is Sleep e = refl
sleep_is (Settle p) e = absurd (true≢false (sym e))
sleep_is Poll e = absurd (true≢false (sym e))
sleep_is Leave e = absurd (true≢false (sym e))
sleep_is IsLeft e = absurd (true≢false (sym e))

leave_is : (x : CellStep) → is_leave x ≡ true → x ≡ Leave
leave_is Sleep e = absurd (true≢false (sym e))
leave_is (Settle p) e = absurd (true≢false (sym e))
leave_is Poll e = absurd (true≢false (sym e))
leave_is Leave e = refl
leave_is IsLeft e = absurd (true≢false (sym e))

settle_is : (x : CellStep) → is_settle x ≡ true → (p : ℕ) × (x ≡ Settle p)
settle_is Sleep e = absurd (true≢false (sym e))
settle_is (Settle p) e = (p, refl)
settle_is Poll e = absurd (true≢false (sym e))
settle_is Leave e = absurd (true≢false (sym e))
settle_is IsLeft e = absurd (true≢false (sym e))

-- What replies say, by the tests that they are made of.
spent_if : (b : Bool) (r : CellReply) → b ≡ true → Some (cond b Spent r) ≡ Some Spent
spent_if true r e = refl
spent_if false r e = absurd (true≢false (sym e))

is_spent : (b : Bool) (r : CellReply) → (Some (cond b Spent r) ≡ Some Spent → ⊥) → b ≡ false
is_spent true r n = absurd (n refl)
is_spent false r n = refl

sleep_unspent : (a b : Bool) (p : ℕ) → a ≡ false → Some (cond a Spent (cond b (Outcome p) Slept)) ≡ Some Spent → ⊥
sleep_unspent true b p e s = true≢false e
sleep_unspent false true p e s = cc
sleep_unspent false false p e s = cc

settle_unspent : (a w : Bool) (o : Option ℕ) → a ≡ false → Some (cond a Spent (Settled w o)) ≡ Some Spent → ⊥
settle_unspent true w o e s = true≢false e
settle_unspent false w o e s = cc

leave_unspent : (a : Bool) (o : Option ℕ) → a ≡ false → Some (cond a Spent (Left o)) ≡ Some Spent → ⊥
leave_unspent true o e s = true≢false e
leave_unspent false o e s = cc

back_if : (a b w : Bool) (p : ℕ) → a ≡ false → b ≡ true → to_settler (Some (cond a Spent (Settled w (cond b (Some p) None)))) ≡ Some p
back_if true b w p e f = absurd (true≢false e)
back_if false true w p e f = refl
back_if false false w p e f = absurd (true≢false (sym f))

woke_if : (a w : Bool) (o : Option ℕ) → a ≡ false → w ≡ true → (back : Option ℕ) × (Some (cond a Spent (Settled w o)) ≡ Some (Settled true back))
woke_if true w o e f = absurd (true≢false e)
woke_if false true o e f = (o, refl)
woke_if false false o e f = absurd (true≢false (sym f))

outcome_if : (a b : Bool) (p q : ℕ) (r : CellReply) → a ≡ false → b ≡ true → p ≡ q → Some (cond a Spent (cond b (Outcome p) r)) ≡ Some (Outcome q)
outcome_if true b p q r e f g = absurd (true≢false e)
outcome_if false true p q r e f g = ap (λ n. Some (Outcome n)) g
outcome_if false false p q r e f g = absurd (true≢false (sym f))

left_if : (a b : Bool) (p q : ℕ) → a ≡ false → b ≡ true → p ≡ q → Some (cond a Spent (Left (cond b (Some p) None))) ≡ Some (Left (Some q))
left_if true b p q e f g = absurd (true≢false e)
left_if false true p q e f g = ap (λ n. Some (Left (Some n))) g
left_if false false p q e f g = absurd (true≢false (sym f))

sleep_gives : (a b : Bool) (p : ℕ) → gives (Some (cond a Spent (cond b (Outcome p) Slept))) ≡ true → b ≡ true
sleep_gives true b p e = absurd (true≢false (sym e))
sleep_gives false true p e = refl
sleep_gives false false p e = absurd (true≢false (sym e))

poll_gives : (a b : Bool) (p : ℕ) → gives (Some (cond a Spent (cond b (Outcome p) Pending))) ≡ true → b ≡ true
poll_gives true b p e = absurd (true≢false (sym e))
poll_gives false true p e = refl
poll_gives false false p e = absurd (true≢false (sym e))

leave_gives : (a b : Bool) (p : ℕ) → gives (Some (cond a Spent (Left (cond b (Some p) None)))) ≡ true → b ≡ true
leave_gives true b p e = absurd (true≢false (sym e))
leave_gives false true p e = refl
leave_gives false false p e = absurd (true≢false (sym e))

settle_gives : (a b w : Bool) (p : ℕ) → gives (Some (cond a Spent (Settled w (cond b (Some p) None)))) ≡ true → (a ≡ false) × (b ≡ true)
settle_gives true b w p e = absurd (true≢false (sym e))
settle_gives false true w p e = (refl, refl)
settle_gives false false w p e = absurd (true≢false (sym e))

flag_gives : (a b : Bool) → gives (Some (cond a Spent (Flag b))) ≡ true → ⊥
flag_gives true b e = true≢false (sym e)
flag_gives false b e = true≢false (sym e)

-- the four owners
owner_case : (X : Owner → Type 0) (a b c : Bool) → (a ≡ false → X Nowhere) → (a ≡ true → b ≡ true → X Settler) → (a ≡ true → b ≡ false → c ≡ true → X Waiter) → (a ≡ true → b ≡ false → c ≡ false → X Home)
    → X (cond (not a) Nowhere (cond b Settler (cond c Waiter Home)))
owner_case X false b c f g h k = f refl
owner_case X true true c f g h k = g refl refl
owner_case X true false true f g h k = h refl refl refl
owner_case X true false false f g h k = k refl refl refl

or_off : (a b : Bool) → a ≡ false → b ≡ false → a || b ≡ false
or_off true b e f = absurd (true≢false e)
or_off false b e f = f

off_not : (b : Bool) → not b ≡ false → b ≡ true
off_not true e = refl
off_not false e = absurd (true≢false e)

module _ (steps : List CellStep) where
  abbrev n : ℕ
  n = length steps

  abbrev z : ℕ
  z = first_sleep steps

  abbrev s : ℕ
  s = first_settle steps

  abbrev l : ℕ
  l = first_leave steps

  abbrev t : ℕ
  t = taker steps

  never : (k : ℕ) → ltb k k ≡ false
  never k = le-ltb k k (omega arith)

  -- the step at a first place passes its test
  there : (test : ℕ → CellStep → Bool) → first test steps < n → (x : CellStep) × (slice_get steps (first test steps) ≡ Some x) × (test (first test steps) x ≡ true)
  there test h = let r = found test 0 steps (omega (arith, h)) in let same : first test steps ≡ r.0 = omega (arith, r.3) in
      let at_ = ap (slice_get steps) same ∙ r.2 in (r.1, at_, down steps (first test steps) r.1 at_ test refl)

  settle_there : s < n → (p : ℕ) × Brings steps p
  settle_there h = let w = there (λ _ y. is_settle y) h in let q = settle_is w.0 w.2 in (q.0, w.1 ∙ ap Some q.1)

  leave_there : l < n → slice_get steps l ≡ Some Leave
  leave_there h = let w = there (λ _ y. is_leave y) h in w.1 ∙ ap Some (leave_is w.0 w.2)

  sleep_there : z < n → slice_get steps z ≡ Some Sleep
  sleep_there h = let w = there (λ _ y. is_sleep y) h in w.1 ∙ ap Some (sleep_is w.0 w.2)

  brought : (p : ℕ) → Brings steps p → outcome steps ≡ p
  brought p b = ap settle_outcome b

  -- what can take the outcome does so after the settle, with no leave before the settle
  taker_there : t < n → (x : CellStep) × (slice_get steps t ≡ Some x) × (ltb l s ≡ false) × (s < t) × (looks x || eqb t z ≡ true)
  taker_there h = let w = there (takes_at s l z) h in let c = and_left (not (ltb l s) && ltb s t) (looks w.0 || eqb t z) w.2 in
      (w.0, w.1, not_true (ltb l s) (and_left (not (ltb l s)) (ltb s t) c), ltb-true s t (and_right (not (ltb l s)) (ltb s t) c), and_right (not (ltb l s) && ltb s t) (looks w.0 || eqb t z) w.2)

  -- no leave comes before the taker
  taker_first : t < n → ltb l t ≡ false
  taker_first h = let w = taker_there h in bool_case (ltb l t)
      (λ e. absurd (true≢false (sym (leave_taken steps t (omega (arith, h)) w.2 (lt-ltb s t w.3) e) ∙ never t)))
      (λ e. e)

  -- the taker is told the outcome, as a leave or as another step
  abbrev Taken : ℕ → Type 0
  Taken p = ((slice_get steps t ≡ Some Leave) × (cell_reply_at steps t ≡ Some (Left (Some p)))) ⊎ ((x : CellStep) × (slice_get steps t ≡ Some x) × (is_leave x ≡ false) × (cell_reply_at steps t ≡ Some (Outcome p)))

  taken : (p : ℕ) → Brings steps p → t < n → Taken p
  taken p b h = let w = taker_there h in by w.0 w.1 w.4
    where
      by : (x : CellStep) → slice_get steps t ≡ Some x → looks x || eqb t z ≡ true → Taken p
      by Sleep e f = let same : t ≡ z = eqb-true t z f in inr (
        Sleep,
        e,
        refl,
        reply_of steps t Sleep e ∙ outcome_if (not (eqb t z) || is_late z l t) (eqb t t) (outcome steps) p Slept
            (or_off (not (eqb t z)) (is_late z l t) (ap not f) (ap (λ m. ltb l m || ltb t m) (sym same) ∙ or_off (ltb l t) (ltb t t) (taker_first h) (never t)))
            (eq-eqb t t refl) (brought p b),
      )
      by (Settle q) e f = absurd (true≢false (sym (down steps t (Settle q) e (λ _ y. is_sleep y) (sym (eqb-true t z f)))))
      by Poll e f = inr (Poll, e, refl, reply_of steps t Poll e ∙ outcome_if (ltb l t) (eqb t t) (outcome steps) p Pending (taker_first h) (eq-eqb t t refl) (brought p b))
      by Leave e f = inl (e, reply_of steps t Leave e ∙ left_if (ltb l t) (eqb t t) (outcome steps) p (taker_first h) (eq-eqb t t refl) (brought p b))
      by IsLeft e f = absurd (true≢false (sym (down steps t IsLeft e (λ _ y. is_sleep y) (sym (eqb-true t z f)))))

  taken_to_waiter : (p : ℕ) → Brings steps p → t < n → to_waiter (cell_reply_at steps t) ≡ Some p
  taken_to_waiter p b h = ⊎_elim
      (λ (w : (slice_get steps t ≡ Some Leave) × (cell_reply_at steps t ≡ Some (Left (Some p)))). ap to_waiter w.1)
      (λ (w : (x : CellStep) × (slice_get steps t ≡ Some x) × (is_leave x ≡ false) × (cell_reply_at steps t ≡ Some (Outcome p))). ap to_waiter w.3)
      (taken p b h)

  -- where a reply hands the outcome out, its place is the taker, or the settle after a leave
  abbrev Gives : ℕ → Type 0
  Gives k = (k < n) × ((k ≡ t) ⊎ ((k ≡ s) × (l < s)))

  gives_where : (k : ℕ) → gives (cell_reply_at steps k) ≡ true → Gives k
  gives_where k g = ⊎_elim
      (λ (e : slice_get steps k ≡ None). absurd (true≢false (sym g ∙ ap gives (no_reply steps k e))))
      (λ (w : (x : CellStep) × (slice_get steps k ≡ Some x)). (get_length steps k w.0 w.1, by w.0 w.1 (sym (ap gives (reply_of steps k w.0 w.1)) ∙ g)))
      (some_or (slice_get steps k))
    where
      by : (x : CellStep) → slice_get steps k ≡ Some x → gives (Some (told_at steps k x)) ≡ true → (k ≡ t) ⊎ ((k ≡ s) × (l < s))
      by Sleep e f = inl (eqb-true k t (sleep_gives (not (eqb k z) || is_late z l t) (eqb k t) (outcome steps) f))
      by (Settle q) e f = let r = settle_gives (ltb s k) (ltb l k) (ltb z k && not (is_late z l t)) q f in
          let low = ltb-false s k r.0 in let high = up steps k (Settle q) e (λ _ y. is_settle y) refl in
          let same : k ≡ s = omega (arith, low, high) in let early = ltb-true l k r.1 in inr (same, omega (arith, same, early))
      by Poll e f = inl (eqb-true k t (poll_gives (ltb l k) (eqb k t) (outcome steps) f))
      by Leave e f = inl (eqb-true k t (leave_gives (ltb l k) (eqb k t) (outcome steps) f))
      by IsLeft e f = absurd (flag_gives (ltb s k) (ltb l k) f)

  -- the taker and a settle after a leave exclude each other
  apart : t < n → l < s → ⊥
  apart h e = let w = taker_there h in true≢false (sym (lt-ltb l s e) ∙ w.2)

  gives_once_ : (j k : ℕ) → gives (cell_reply_at steps j) ≡ true → gives (cell_reply_at steps k) ≡ true → j ≡ k
  gives_once_ j k f g = let a = gives_where j f in let b = gives_where k g in ⊎_elim
      (λ (e : j ≡ t). ⊎_elim
      (λ (h : k ≡ t). e ∙ sym h)
      (λ (h : (k ≡ s) × (l < s)). let first_ = a.0 in absurd (apart (omega (arith, e, first_)) h.1))
      b.1)
      (λ (e : (j ≡ s) × (l < s)). ⊎_elim
      (λ (h : k ≡ t). let second_ = b.0 in absurd (apart (omega (arith, h, second_)) e.1))
      (λ (h : (k ≡ s) × (l < s)). e.0 ∙ sym h.0)
      b.1)
      a.1

  settle_second_ : (p : ℕ) → l < s → Brings steps p → to_settler (cell_reply_at steps s) ≡ Some p
  settle_second_ p h b = ap to_settler (reply_of steps s (Settle p) b) ∙ back_if (ltb s s) (ltb l s) (ltb z s && not (is_late z l t)) p (never s) (lt-ltb l s h)

  none_gives : (k : ℕ) → (Gives k → ⊥) → gives (cell_reply_at steps k) ≡ false
  none_gives k never_ = bool_case (gives (cell_reply_at steps k)) (λ g. absurd (never_ (gives_where k g))) (λ e. e)

  owned_ : OwnedAsTold steps (owner_after steps)
  owned_ = owner_case (OwnedAsTold steps) (ltb s n) (ltb l s) (ltb t n)
      (λ e. (
        e,
        λ k. none_gives k (λ (g : Gives k). let far = ltb-false s n e in ⊎_elim
            (λ (h : k ≡ t). let near = g.0 in let w = taker_there (omega (arith, near, h)) in let more = w.3 in absurd (omega (arith, far, more, near, h)))
            (λ (h : (k ≡ s) × (l < s)). let near = g.0 in let same = h.0 in absurd (omega (arith, far, near, same)))
            g.1),
      ))
      (λ e f. let w = settle_there (ltb-true s n e) in (w.0, w.1, s, settle_second_ w.0 (ltb-true l s f) w.1))
      (λ e f g. let w = settle_there (ltb-true s n e) in (w.0, w.1, t, taken_to_waiter w.0 w.1 (ltb-true t n g)))
      (λ e f g. let w = settle_there (ltb-true s n e) in (
        w.0,
        w.1,
        λ k. none_gives k (λ (d : Gives k). ⊎_elim
            (λ (h : k ≡ t). let near = d.0 in let far = ltb-false t n g in absurd (omega (arith, near, far, h)))
            (λ (h : (k ≡ s) × (l < s)). absurd (true≢false (sym (lt-ltb l s h.1) ∙ f)))
            d.1),
      ))

  leave_second_ : (p : ℕ) → s < l → Brings steps p → slice_get steps l ≡ Some Leave
      → (cell_reply_at steps l ≡ Some (Left (Some p))) ⊎ ((k : ℕ) × (s < k) × (k < l) × (cell_reply_at steps k ≡ Some (Outcome p)))
  leave_second_ p h b e =
      let long = get_length steps l Leave e in
      let by_then = ltb-true t (suc l) (leave_taken steps (suc l) (omega (arith, long)) (le-ltb l s (omega (arith, h))) (lt-ltb s (suc l) (omega (arith, h))) (lt-ltb l (suc l) (omega arith))) in
      let near : t < n = omega (arith, by_then, long) in
      let w = taker_there near in
      ⊎_elim
      (λ (d : (slice_get steps t ≡ Some Leave) × (cell_reply_at steps t ≡ Some (Left (Some p)))). let low = up steps t Leave d.0 (λ _ y. is_leave y) refl in
      let same : l ≡ t = omega (arith, low, by_then) in inl (ap (cell_reply_at steps) same ∙ d.1))
      (λ (d : (x : CellStep) × (slice_get steps t ≡ Some x) × (is_leave x ≡ false) × (cell_reply_at steps t ≡ Some (Outcome p))). dite (dec_lt t l)
      (λ early. inr (t, w.3, early, d.3))
      (λ later. let same : l ≡ t = omega arith in absurd (true≢false (sym (down steps t d.0 d.1 (λ _ y. is_leave y) same) ∙ d.2))))
      (taken p b near)

  -- an unspent sleep is the first one, and not late
  first_asleep : (k : ℕ) → Makes steps k Sleep → (k ≡ z) × (is_late z l t ≡ false)
  first_asleep k m = let off = is_spent (not (eqb k z) || is_late z l t) (cond (eqb k t) (Outcome (outcome steps)) Slept) (λ e. m.1 (reply_of steps k Sleep m.0 ∙ e)) in
      (eqb-true k z (off_not (eqb k z) (or_off_left (not (eqb k z)) (is_late z l t) off)), or_off_right (not (eqb k z)) (is_late z l t) off)

  settle_wakes_ : (k p : ℕ) → Makes steps k Sleep → Brings steps p → k < s → (back : Option ℕ) × (cell_reply_at steps s ≡ Some (Settled true back))
  settle_wakes_ k p m b h = let a = first_asleep k m in let same = a.0 in
      let r = woke_if (ltb s s) (ltb z s && not (is_late z l t)) (cond (ltb l s) (Some p) None) (never s) (both (ltb z s) (not (is_late z l t)) (lt-ltb z s (omega (arith, same, h))) (ap not a.1)) in
      (r.0, reply_of steps s (Settle p) b ∙ r.1)

  sleep_gets_ : (k p : ℕ) → Makes steps k Sleep → Brings steps p → s < k → cell_reply_at steps k ≡ Some (Outcome p)
  sleep_gets_ k p m b h = let a = first_asleep k m in let same = a.0 in let near = get_length steps k Sleep m.0 in
      let takes : z ≡ t = sleep_takes steps n (omega arith) (lt-ltb z n (omega (arith, same, near))) a.1 (le-ltb z s (omega (arith, same, h))) in
      reply_of steps k Sleep m.0 ∙ outcome_if (not (eqb k z) || is_late z l t) (eqb k t) (outcome steps) p Slept
      (or_off (not (eqb k z)) (is_late z l t) (ap not (eq-eqb k z same)) a.1) (eq-eqb k t (same ∙ takes)) (brought p b)

  lawful_ : IsLawful steps
  lawful_ = record {
    settles_once = λ j k p q h e f. let low = up steps j (Settle p) e (λ _ y. is_settle y) refl in reply_of steps k (Settle q) f ∙ spent_if (ltb s k) _ (lt-ltb s k (omega (arith, low, h)));
    leaves_once = λ j k h e f. let low = up steps j Leave e (λ _ y. is_leave y) refl in reply_of steps k Leave f ∙ spent_if (ltb l k) _ (lt-ltb l k (omega (arith, low, h)));
    slept_by = λ e. let near = ltb-true z n (and_left (ltb z n) (not (is_late z l t)) e) in let on = not_true (is_late z l t) (and_right (ltb z n) (not (is_late z l t)) e) in let at_ = sleep_there near in
        (z, (at_, λ d. sleep_unspent (not (eqb z z) || is_late z l t) (eqb z t) (outcome steps) (or_off (not (eqb z z)) (is_late z l t) (ap not (eq-eqb z z refl)) on) (sym (reply_of steps z Sleep at_) ∙ d)));
    ended_by = λ e. let w = settle_there (ltb-true s n e) in
        (s, w.0, (w.1, λ d. settle_unspent (ltb s s) (ltb z s && not (is_late z l t)) (cond (ltb l s) (Some w.0) None) (never s) (sym (reply_of steps s (Settle w.0) w.1) ∙ d)));
    left_by = λ e. let at_ = leave_there (ltb-true l n e) in
        (l, (at_, λ d. leave_unspent (ltb l l) (cond (eqb l t) (Some (outcome steps)) None) (never l) (sym (reply_of steps l Leave at_) ∙ d)));
    gives_once = gives_once_;
    owned = owned_;
    settle_second = settle_second_;
    leave_second = leave_second_;
    settle_wakes = settle_wakes_;
    sleep_gets = sleep_gets_;
  }

pub law : (steps : List CellStep) → CellLaw steps
law steps = record {
  lawful = λ n. lawful_ (take n steps);
  replies_stay = replies_stay_ steps;
  slept_stays = λ n m h e. let a = ending (take n steps) in let b = ending (take m steps) in sym b.0 ∙ (cut_below steps n m h).0 (a.0 ∙ e);
  ended_stays = λ n m h e. let a = ending (take n steps) in let b = ending (take m steps) in sym b.1 ∙ (cut_below steps n m h).1 (a.1 ∙ e);
  left_stays = λ n m h e. let a = ending (take n steps) in let b = ending (take m steps) in sym b.2 ∙ (cut_below steps n m h).2 (a.2 ∙ e);
}
