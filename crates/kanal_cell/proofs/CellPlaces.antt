-- The state of a plain cell, told by first places.
use Rattle.kanal_cell.proofs.Common.{◌≡◌, ◌≢◌, ℕ, zero, suc, ◌+◌, ◌<◌, ◌≤◌, Bool, true, false, not, ◌&&◌, ◌||◌, cond, true≢false, ltb, eqb, List, [], ◌∷◌, ◌++◌, length, get_or, refl, sym, ap, ◌∙◌, subst, Option, Some, None, arith, lt-ltb, le-ltb, ltb-true, ltb-false, eq-eqb, ne_eqb, eqb-true, slice_get, dite, dec_lt, CellCore, CellStep, Sleep, Settle, Poll, Leave, IsLeft, CellReply, Slept, Outcome, Pending, Settled, Left, Flag, Spent, Owner, Nowhere, Home, implies, cell, empty, is_home, cell_reply, cell_after, cell_word, owner_of, is_sleep, is_settle, is_leave, looks, first_from, first, first_sleep, first_settle, first_leave, takes_at, taker, settle_outcome, is_late, outcome, told_at, told_there, cell_reply_at, word_after, owner_after}
use Rattle.kanal_cell.specs.declared.signal.steps.Owner.TheVariants.{Waiter, Settler}
use Rattle.kanal_cell.proofs.CellBools.{iff, all, and_left, and_right, both, iff_eq, implied, follows, bool_case, false_not, either, or_left, or_right, iff_same, and_false, or_off_left, or_off_right}

-- First places.
-- the first place lies at or after the start
bounds : (test : ℕ → CellStep → Bool) (i : ℕ) (xs : List CellStep) → i ≤ first_from test i xs
bounds test i [] = omega arith
bounds test i (y ∷ xs) = bool_case (test i y)
    (λ b. subst (λ v. i ≤ cond v i (first_from test (suc i) xs)) (sym b) (omega arith))
    (λ b. subst (λ v. i ≤ cond v i (first_from test (suc i) xs)) (sym b) (let h = bounds test (suc i) xs in omega (arith, h)))

abbrev or_else : CellStep → Option CellStep → CellStep
or_else d None = d
or_else d (Some x) = x

pub hit : (test : ℕ → CellStep → Bool) (i : ℕ) (xs : List CellStep) (k : ℕ) (x : CellStep) → slice_get xs k ≡ Some x → test (i + k) x ≡ true → first_from test i xs ≤ i + k
hit test i [] k x e t = absurd (cc)
hit test i (y ∷ xs) zero x e t = let z : i + 0 ≡ i = omega arith in
    let b : test i y ≡ true = subst (λ (n : ℕ × CellStep). test n.0 n.1 ≡ true) (λ j. (z j, sym (ap (or_else y) e) j)) t in
    subst (λ v. cond v i (first_from test (suc i) xs) ≤ i + 0) (sym b) (omega arith)
hit test i (y ∷ xs) (suc k) x e t = let s : i + suc k ≡ suc i + k = omega arith in let h = hit test (suc i) xs k x e (subst (λ n. test n x ≡ true) s t) in bool_case (test i y)
    (λ b. subst (λ v. cond v i (first_from test (suc i) xs) ≤ i + suc k) (sym b) (omega arith))
    (λ b. subst (λ v. cond v i (first_from test (suc i) xs) ≤ i + suc k) (sym b) (omega (arith, h)))

pub here_is : (test : ℕ → CellStep → Bool) (i : ℕ) (xs : List CellStep) (k : ℕ) (x : CellStep) → slice_get xs k ≡ Some x → first_from test i xs ≡ i + k → test (i + k) x ≡ true
here_is test i [] k x e t = absurd (cc)
here_is test i (y ∷ xs) zero x e t = let z : i + 0 ≡ i = omega arith in bool_case (test i y)
    (λ b. subst (λ (n : ℕ × CellStep). test n.0 n.1 ≡ true) (λ j. (sym z j, ap (or_else y) e j)) b)
    (λ b. let same : first_from test (suc i) xs ≡ i + 0 = subst (λ v. cond v i (first_from test (suc i) xs) ≡ i + 0) b t in let h = bounds test (suc i) xs in absurd (omega (arith, h, same)))
here_is test i (y ∷ xs) (suc k) x e t = let s : i + suc k ≡ suc i + k = omega arith in bool_case (test i y)
    (λ b. let same : i ≡ i + suc k = subst (λ v. cond v i (first_from test (suc i) xs) ≡ i + suc k) b t in absurd (omega (arith, same)))
    (λ b. let same : first_from test (suc i) xs ≡ i + suc k = subst (λ v. cond v i (first_from test (suc i) xs) ≡ i + suc k) b t in
    subst (λ n. test n x ≡ true) (sym s) (here_is test (suc i) xs k x e (same ∙ s)))

-- a first place that lies before the end passes
pub found : (test : ℕ → CellStep → Bool) (i : ℕ) (xs : List CellStep) → first_from test i xs < i + length xs → (k : ℕ) × (x : CellStep) × (slice_get xs k ≡ Some x) × (first_from test i xs ≡ i + k)
found test i [] l = absurd (omega arith)
found test i (y ∷ xs) l = bool_case (test i y)
    (λ b. (0, y, refl, subst (λ v. cond v i (first_from test (suc i) xs) ≡ i + 0) (sym b) (omega arith)))
    (λ b. let near : first_from test (suc i) xs < i + length (y ∷ xs) = subst (λ v. cond v i (first_from test (suc i) xs) < i + length (y ∷ xs)) b l in
    let r = found test (suc i) xs (omega (arith, near)) in
    (suc r.0, r.1, r.2, subst (λ v. cond v i (first_from test (suc i) xs) ≡ i + suc r.0) (sym b) (omega (arith, r.3))))

-- what the next place does to two tests
pub later : (f k : ℕ) (b : Bool) → (b ≡ true → f ≤ k) → (f ≡ k → b ≡ true) → ltb f (suc k) ≡ ltb f k || b
later f k b up down = dite (dec_lt f k)
    (λ l. lt-ltb f (suc k) (omega arith) ∙ sym (ap (λ v. v || b) (lt-ltb f k l)))
    (λ n. let off : ltb f k ≡ false = le-ltb f k (omega arith) in bool_case b
    (λ t. let u = up t in lt-ltb f (suc k) (omega (arith, u)) ∙ sym (subst (λ (v : Bool × Bool). v.0 || v.1 ≡ true) (λ j. (sym off j, sym t j)) refl))
    (λ t. let ne : f ≢ k = λ e. true≢false (sym (down e) ∙ t) in le-ltb f (suc k) (omega arith) ∙ sym (subst (λ (v : Bool × Bool). v.0 || v.1 ≡ false) (λ j. (sym off j, sym t j)) refl)))

pub now : (f k : ℕ) (b : Bool) → (b ≡ true → f ≤ k) → (f ≡ k → b ≡ true) → eqb k f ≡ not (ltb f k) && b
now f k b up down = dite (dec_lt f k)
    (λ l. ne_eqb k f (λ e. omega arith) ∙ sym (ap (λ v. not v && b) (lt-ltb f k l)))
    (λ n. let off : ltb f k ≡ false = le-ltb f k (omega arith) in bool_case b
    (λ t. let u = up t in eq-eqb k f (omega (arith, u)) ∙ sym (subst (λ (v : Bool × Bool). not v.0 && v.1 ≡ true) (λ j. (sym off j, sym t j)) refl))
    (λ t. ne_eqb k f (λ e. true≢false (sym (down (sym e)) ∙ t)) ∙ sym (subst (λ (v : Bool × Bool). not v.0 && v.1 ≡ false) (λ j. (sym off j, sym t j)) refl)))

-- The step, over the six Bools: the first sleep is before k, it is late; the settle, the leave and the taker are before k; the leave is before the settle.
abbrev takes_now : CellStep → Bool → Bool → Bool → Bool
takes_now x zk en ls = not ls && en && (looks x || (not zk && is_sleep x))

abbrev prem : CellStep → Bool → Bool → Bool → Bool → Bool → Bool → Bool
prem x zk lt en le hd ls =
    implies (zk && lt) (le || hd)
    && implies (not zk && is_sleep x) (iff lt (le || hd))
    && implies (not ls && en && le) hd
    && implies (not en && is_settle x) (iff ls le)

abbrev checks : CellStep → CellCore → Bool → Bool → Bool → Bool → Bool → Bool → Bool
checks x n zk lt en le hd ls =
    iff n.sleeping ((zk || is_sleep x) && not lt)
    && iff n.ended (en || is_settle x)
    && iff n.left (le || is_leave x)
    && iff n.had (hd || takes_now x zk en ls)
    && iff n.back (ls && (en || is_settle x))

abbrev told_core : Bool → Bool → Bool → Bool → Bool → Bool → ℕ → CellCore
told_core zk lt en le hd ls v = cell (zk && not lt) en le hd (ls && en) v

abbrev Checked : CellStep → Type 0
Checked x = (v : ℕ) (zk lt en le hd ls : Bool) → prem x zk lt en le hd ls ≡ true → checks x (cell_after (told_core zk lt en le hd ls v) x) zk lt en le hd ls ≡ true

checked : (x : CellStep) → Checked x
checked Sleep v = follows (prem Sleep) (λ zk lt en le hd ls. checks Sleep (cell_after (told_core zk lt en le hd ls v) Sleep) zk lt en le hd ls) refl
checked (Settle q) v = follows (prem (Settle q)) (λ zk lt en le hd ls. checks (Settle q) (cell_after (told_core zk lt en le hd ls v) (Settle q)) zk lt en le hd ls) refl
checked Poll v = follows (prem Poll) (λ zk lt en le hd ls. checks Poll (cell_after (told_core zk lt en le hd ls v) Poll) zk lt en le hd ls) refl
checked Leave v = follows (prem Leave) (λ zk lt en le hd ls. checks Leave (cell_after (told_core zk lt en le hd ls v) Leave) zk lt en le hd ls) refl
checked IsLeft v = follows (prem IsLeft) (λ zk lt en le hd ls. checks IsLeft (cell_after (told_core zk lt en le hd ls v) IsLeft) zk lt en le hd ls) refl

-- the reply, by the same Bools
abbrev told_now : Bool → Bool → Bool → Bool → Bool → Bool → ℕ → CellStep → CellReply
told_now zk lt en le hd ls p Sleep = cond (not (not zk && true) || lt) Spent (cond (not hd && takes_now Sleep zk en ls) (Outcome p) Slept)
told_now zk lt en le hd ls p (Settle q) = cond en Spent (Settled (zk && not lt) (cond le (Some q) None))
told_now zk lt en le hd ls p Poll = cond le Spent (cond (not hd && takes_now Poll zk en ls) (Outcome p) Pending)
told_now zk lt en le hd ls p Leave = cond le Spent (Left (cond (not hd && takes_now Leave zk en ls) (Some p) None))
told_now zk lt en le hd ls p IsLeft = cond en Spent (Flag le)

cond_same : {A : Type 0} (f : ℕ → A) (y : A) (b c : Bool) (p v : ℕ) → b ≡ c → (c ≡ true → v ≡ p) → cond b (f p) y ≡ cond c (f v) y
cond_same {A} f y true true p v e h = ap f (sym (h refl))
cond_same {A} f y true false p v e h = absurd (true≢false e)
cond_same {A} f y false true p v e h = absurd (true≢false (sym e))
cond_same {A} f y false false p v e h = refl

cond_both : (s x y : CellReply) (b c : Bool) → b ≡ c → (c ≡ false → x ≡ y) → cond b s x ≡ cond c s y
cond_both s x y true true e h = refl
cond_both s x y true false e h = absurd (true≢false e)
cond_both s x y false true e h = absurd (true≢false (sym e))
cond_both s x y false false e h = h refl

abbrev home : Bool → Bool → Bool → Bool
home en hd ls = en && not (ls && en) && not hd

home_ended : (en hd ls : Bool) → home en hd ls ≡ true → en ≡ true
home_ended en hd ls e = and_left _ _ (and_left _ _ e)

spent_same : (zk lt en le hd ls : Bool) → prem Sleep zk lt en le hd ls ≡ true → iff (not (not zk && true) || lt) ((zk && not lt) || le || hd) ≡ true
spent_same = follows (prem Sleep) (λ zk lt en le hd ls. iff (not (not zk && true) || lt) ((zk && not lt) || le || hd)) refl

sleep_home : (zk lt en le hd ls : Bool) → prem Sleep zk lt en le hd ls && not ((zk && not lt) || le || hd) ≡ true → iff (not hd && takes_now Sleep zk en ls) (home en hd ls) ≡ true
sleep_home = follows (λ zk lt en le hd ls. prem Sleep zk lt en le hd ls && not ((zk && not lt) || le || hd)) (λ zk lt en le hd ls. iff (not hd && takes_now Sleep zk en ls) (home en hd ls)) refl

look_home : (zk lt en le hd ls : Bool) → true ≡ true → iff (not hd && takes_now Poll zk en ls) (home en hd ls) ≡ true
look_home = follows (λ zk lt en le hd ls. true) (λ zk lt en le hd ls. iff (not hd && takes_now Poll zk en ls) (home en hd ls)) refl

replied : (x : CellStep) (p v : ℕ) (zk lt en le hd ls : Bool) → prem x zk lt en le hd ls ≡ true → (en ≡ true → v ≡ p) → told_now zk lt en le hd ls p x ≡ cell_reply (told_core zk lt en le hd ls v) x
replied Sleep p v zk lt en le hd ls h same = cond_both Spent _ _ _ _ (iff_eq _ _ (spent_same zk lt en le hd ls h))
    (λ free. cond_same Outcome Slept _ _ p v (iff_eq _ _ (sleep_home zk lt en le hd ls (both _ _ h (false_not _ free)))) (λ t. same (home_ended en hd ls t)))
replied (Settle q) p v zk lt en le hd ls h same = refl
replied Poll p v zk lt en le hd ls h same = ap (cond le Spent) (cond_same Outcome Pending _ _ p v (iff_eq _ _ (look_home zk lt en le hd ls refl)) (λ t. same (home_ended en hd ls t)))
replied Leave p v zk lt en le hd ls h same = ap (λ r. cond le Spent (Left r)) (cond_same Some None _ _ p v (iff_eq _ _ (look_home zk lt en le hd ls refl)) (λ t. same (home_ended en hd ls t)))
replied IsLeft p v zk lt en le hd ls h same = refl

pub get_length : (xs : List CellStep) (k : ℕ) (x : CellStep) → slice_get xs k ≡ Some x → k < length xs
get_length [] k x e = absurd (cc)
get_length (y ∷ xs) zero x e = omega arith
get_length (y ∷ xs) (suc k) x e = let h = get_length xs k x e in omega (arith, h)

pub leaves_look : (x : CellStep) → is_leave x ≡ true → (looks x ≡ true) × (is_settle x ≡ true → ⊥)
leaves_look Sleep e = absurd (true≢false (sym e))
leaves_look (Settle p) e = absurd (true≢false (sym e))
leaves_look Poll e = absurd (true≢false (sym e))
leaves_look Leave e = (refl, λ h. true≢false (sym h))
leaves_look IsLeft e = absurd (true≢false (sym e))

-- what the state is before the place k

abbrev pub StateAt : List CellStep → ℕ → CellCore → Type 0
StateAt steps k c = let z = first_sleep steps in let s = first_settle steps in let l = first_leave steps in let t = taker steps in
    (c.sleeping ≡ ltb z k && not (is_late z l t)) × (c.ended ≡ ltb s k) × (c.left ≡ ltb l k) × (c.had ≡ ltb t k) × (c.back ≡ ltb l s && ltb s k) × (c.ended ≡ true → c.value ≡ outcome steps)

pub starts : (steps : List CellStep) → StateAt steps 0 empty
starts steps = let z = first_sleep steps in let s = first_settle steps in let l = first_leave steps in let t = taker steps in (
  sym (ap (λ b. b && not (is_late z l t)) (le-ltb z 0 (omega arith))),
  sym (le-ltb s 0 (omega arith)),
  sym (le-ltb l 0 (omega arith)),
  sym (le-ltb t 0 (omega arith)),
  sym (ap (λ b. ltb l s && b) (le-ltb s 0 (omega arith)) ∙ and_false (ltb l s)),
  λ e. absurd (true≢false (sym e)),
)

module _ (steps : List CellStep) (k : ℕ) (x : CellStep) (e : slice_get steps k ≡ Some x) where
  abbrev z : ℕ
  z = first_sleep steps

  abbrev s : ℕ
  s = first_settle steps

  abbrev l : ℕ
  l = first_leave steps

  abbrev t : ℕ
  t = taker steps

  abbrev test_t : ℕ → CellStep → Bool
  test_t = takes_at s l z

  pub up : (test : ℕ → CellStep → Bool) → test k x ≡ true → first test steps ≤ k
  up test h = let n : k ≡ 0 + k = omega arith in let b = hit test 0 steps k x e (subst (λ i. test i x ≡ true) n h) in omega (arith, b)

  pub down : (test : ℕ → CellStep → Bool) → first test steps ≡ k → test k x ≡ true
  down test h = let n : 0 + k ≡ k = omega arith in subst (λ i. test i x ≡ true) n (here_is test 0 steps k x e (h ∙ sym n))

  next_of : (test : ℕ → CellStep → Bool) → ltb (first test steps) (suc k) ≡ ltb (first test steps) k || test k x
  next_of test = later (first test steps) k (test k x) (up test) (down test)

  now_of : (test : ℕ → CellStep → Bool) → eqb k (first test steps) ≡ not (ltb (first test steps) k) && test k x
  now_of test = now (first test steps) k (test k x) (up test) (down test)

  sleep_now : eqb k z ≡ not (ltb z k) && is_sleep x
  sleep_now = now_of (λ _ y. is_sleep y)

  taken_now : takes_at s l z k x ≡ takes_now x (ltb z k) (ltb s k) (ltb l s)
  taken_now = ap (λ b. not (ltb l s) && ltb s k && (looks x || b)) sleep_now

  p1 : implies (ltb z k && is_late z l t) (ltb l k || ltb t k) ≡ true
  p1 = implied (ltb z k && is_late z l t) (ltb l k || ltb t k) (λ h. let b = ltb-true z k (and_left (ltb z k) (is_late z l t) h) in either (ltb l z) (ltb t z) (and_right (ltb z k) (is_late z l t) h)
      (λ q. let r = ltb-true l z q in or_left (ltb l k) (ltb t k) (lt-ltb l k (omega (arith, b, r))))
      (λ q. let r = ltb-true t z q in or_right (ltb l k) (ltb t k) (lt-ltb t k (omega (arith, b, r)))))

  p2 : implies (not (ltb z k) && is_sleep x) (iff (is_late z l t) (ltb l k || ltb t k)) ≡ true
  p2 = implied _ _ (λ h. let same : k ≡ z = eqb-true k z (sleep_now ∙ h) in iff_same _ _ (ap (λ n. ltb l n || ltb t n) (sym same)))

  p4 : implies (not (ltb s k) && is_settle x) (iff (ltb l s) (ltb l k)) ≡ true
  p4 = implied _ _ (λ h. let same : k ≡ s = eqb-true k s (now_of (λ _ y. is_settle y) ∙ h) in iff_same _ _ (ap (λ n. ltb l n) (sym same)))

  p3 : implies (not (ltb l s) && ltb s k && ltb l k) (ltb t k) ≡ true
  p3 = implied _ _ (λ h.
      let le = ltb-true l k (and_right _ _ h) in
      let before : not (ltb l s) ≡ true = and_left _ _ (and_left _ _ h) in
      let long = get_length steps k x e in
      let r = found (λ _ y. is_leave y) 0 steps (omega (arith, le, long)) in
      let leaves : is_leave r.1 ≡ true = here_is (λ _ y. is_leave y) 0 steps r.0 r.1 r.2 r.3 in
      let at_l : l ≡ r.0 = omega (arith, r.3) in
      let apart : s ≢ l = λ q. (leaves_look r.1 leaves).1 (here_is (λ _ y. is_settle y) 0 steps r.0 r.1 r.2 (q ∙ r.3)) in
      let not_before : s ≤ l = bool_case (ltb l s) (λ q. absurd (true≢false (sym (subst (λ v. not v ≡ true) q before)))) (λ q. ltb-false l s q) in
      let after : ltb s r.0 ≡ true = lt-ltb s r.0 (omega (arith, at_l, apart, not_before)) in
      let takes : test_t r.0 r.1 ≡ true = both _ _ (both _ _ before after) (or_left _ _ (leaves_look r.1 leaves).0) in
      let n : r.0 ≡ 0 + r.0 = omega arith in let early = hit test_t 0 steps r.0 r.1 r.2 (subst (λ i. test_t i r.1 ≡ true) n takes) in
      lt-ltb t k (omega (arith, early, at_l, le)))

  prem_ok : prem x (ltb z k) (is_late z l t) (ltb s k) (ltb l k) (ltb t k) (ltb l s) ≡ true
  prem_ok = both _ _ (both _ _ (both _ _ p1 p2) p3) p4

  told_is : told_at steps k x ≡ told_now (ltb z k) (is_late z l t) (ltb s k) (ltb l k) (ltb t k) (ltb l s) (outcome steps) x
  told_is = by x sleep_now (now_of test_t ∙ ap (λ b. not (ltb t k) && b) taken_now)
    where
      by : (y : CellStep) → eqb k z ≡ not (ltb z k) && is_sleep y → eqb k t ≡ not (ltb t k) && takes_now y (ltb z k) (ltb s k) (ltb l s)
          → told_at steps k y ≡ told_now (ltb z k) (is_late z l t) (ltb s k) (ltb l k) (ltb t k) (ltb l s) (outcome steps) y
      by Sleep a b = λ i. cond (not (a i) || is_late z l t) Spent (cond (b i) (Outcome (outcome steps)) Slept)
      by (Settle q) a b = refl
      by Poll a b = λ i. cond (ltb l k) Spent (cond (b i) (Outcome (outcome steps)) Pending)
      by Leave a b = λ i. cond (ltb l k) Spent (Left (cond (b i) (Some (outcome steps)) None))
      by IsLeft a b = refl

  value_of : (y : CellStep) (c : CellCore) → slice_get steps k ≡ Some y → (c.ended ≡ ltb s k) → (is_settle y ≡ true → s ≤ k) → (c.ended ≡ true → c.value ≡ outcome steps) → (cell_after c y).ended ≡ true → (cell_after c y).value ≡ outcome steps
  value_of Sleep c g en least same = bool_case (c.sleeping || c.left || c.had) (λ b. subst (λ v. (cond v c (cell true c.ended c.left (c.had || is_home c) c.back c.value)).ended ≡ true → (cond v c (cell true c.ended c.left (c.had || is_home c) c.back c.value)).value ≡ outcome steps) (sym b) same)
      (λ b. subst (λ v. (cond v c (cell true c.ended c.left (c.had || is_home c) c.back c.value)).ended ≡ true → (cond v c (cell true c.ended c.left (c.had || is_home c) c.back c.value)).value ≡ outcome steps) (sym b) same)
  value_of (Settle q) c g en least same = bool_case c.ended (λ b. subst (λ v. (cond v c (cell c.sleeping true c.left c.had c.left q)).ended ≡ true → (cond v c (cell c.sleeping true c.left c.had c.left q)).value ≡ outcome steps) (sym b) same)
      (λ b. subst (λ v. (cond v c (cell c.sleeping true c.left c.had c.left q)).ended ≡ true → (cond v c (cell c.sleeping true c.left c.had c.left q)).value ≡ outcome steps) (sym b)
      (λ _. let le = least refl in let ge = ltb-false s k (sym en ∙ b) in let here : k ≡ s = omega (arith, le, ge) in sym (ap settle_outcome (ap (slice_get steps) (sym here) ∙ g))))
  value_of Poll c g en least same = bool_case c.left (λ b. subst (λ v. (cond v c (cell c.sleeping c.ended c.left (c.had || is_home c) c.back c.value)).ended ≡ true → (cond v c (cell c.sleeping c.ended c.left (c.had || is_home c) c.back c.value)).value ≡ outcome steps) (sym b) same)
      (λ b. subst (λ v. (cond v c (cell c.sleeping c.ended c.left (c.had || is_home c) c.back c.value)).ended ≡ true → (cond v c (cell c.sleeping c.ended c.left (c.had || is_home c) c.back c.value)).value ≡ outcome steps) (sym b) same)
  value_of Leave c g en least same = bool_case c.left (λ b. subst (λ v. (cond v c (cell c.sleeping c.ended true (c.had || is_home c) c.back c.value)).ended ≡ true → (cond v c (cell c.sleeping c.ended true (c.had || is_home c) c.back c.value)).value ≡ outcome steps) (sym b) same)
      (λ b. subst (λ v. (cond v c (cell c.sleeping c.ended true (c.had || is_home c) c.back c.value)).ended ≡ true → (cond v c (cell c.sleeping c.ended true (c.had || is_home c) c.back c.value)).value ≡ outcome steps) (sym b) same)
  value_of IsLeft c g en least same = same

  abbrev told_state : ℕ → CellCore
  told_state v = told_core (ltb z k) (is_late z l t) (ltb s k) (ltb l k) (ltb t k) (ltb l s) v

  is_told : (c : CellCore) → StateAt steps k c → c ≡ told_state c.value
  is_told c f = λ i. cell (f.0 i) (f.1 i) (f.2 i) (f.3 i) ((f.4 ∙ swap) i) c.value
    where
      swap : ltb l s && ltb s k ≡ ltb l s && ltb s k
      swap = refl

  pub answers : (c : CellCore) → StateAt steps k c → told_at steps k x ≡ cell_reply c x
  answers c f = told_is ∙ (replied x (outcome steps) c.value (ltb z k) (is_late z l t) (ltb s k) (ltb l k) (ltb t k) (ltb l s) prem_ok (λ h. f.5 (f.1 ∙ h)) ∙ ap (λ d. cell_reply d x) (sym (is_told c f)))

  pub goes_on : (c : CellCore) → StateAt steps k c → StateAt steps (suc k) (cell_after c x)
  goes_on c f =
      let h = subst (λ d. checks x (cell_after d x) (ltb z k) (is_late z l t) (ltb s k) (ltb l k) (ltb t k) (ltb l s) ≡ true) (sym (is_told c f)) (checked x c.value (ltb z k) (is_late z l t) (ltb s k) (ltb l k) (ltb t k) (ltb l s) prem_ok) in
      let h1 = and_left _ _ h in let h2 = and_left _ _ h1 in let h3 = and_left _ _ h2 in (
        iff_eq _ _ (and_left _ _ h3) ∙ ap (λ b. b && not (is_late z l t)) (sym (next_of (λ _ y. is_sleep y))),
        iff_eq _ _ (and_right _ _ h3) ∙ sym (next_of (λ _ y. is_settle y)),
        iff_eq _ _ (and_right _ _ h2) ∙ sym (next_of (λ _ y. is_leave y)),
        iff_eq _ _ (and_right _ _ h1) ∙ ap (λ b. ltb t k || b) (sym taken_now) ∙ sym (next_of test_t),
        iff_eq _ _ (and_right _ _ h) ∙ ap (λ b. ltb l s && b) (sym (next_of (λ _ y. is_settle y))),
        value_of x c e f.1 (up (λ _ y. is_settle y)) f.5,
      )

get_there : (xs : List CellStep) (k : ℕ) (d : CellStep) → k < length xs → slice_get xs k ≡ Some (get_or xs k d)
get_there [] k d h = absurd (omega arith)
get_there (y ∷ xs) zero d h = refl
get_there (y ∷ xs) (suc k) d h = get_there xs k d (omega (arith, h))

get_front : (xs ys : List CellReply) (k : ℕ) → k < length xs → slice_get (xs ++ ys) k ≡ slice_get xs k
get_front [] ys k h = absurd (omega arith)
get_front (x ∷ xs) ys zero h = refl
get_front (x ∷ xs) ys (suc k) h = get_front xs ys k (omega (arith, h))

get_last : (xs : List CellReply) (y : CellReply) → slice_get (xs ++ y ∷ []) (length xs) ≡ Some y
get_last [] y = refl
get_last (x ∷ xs) y = get_last xs y

abbrev pub Said : List CellStep → ℕ → List CellReply → Type 0
Said steps n rs = (k : ℕ) (x : CellStep) → k < n → slice_get steps k ≡ Some x → slice_get rs k ≡ Some (told_at steps k x)

pub state_kept : (steps : List CellStep) (k : ℕ) (d : CellStep) (c c' : CellCore) → k < length steps → StateAt steps k c → c' ≡ cell_after c (get_or steps k d) → StateAt steps (k + 1) c'
state_kept steps k d c c' h f is = let n : suc k ≡ k + 1 = omega arith in
    subst (λ (p : ℕ × CellCore). StateAt steps p.0 p.1) (λ i. (n i, sym is i)) (goes_on steps k (get_or steps k d) (get_there steps k d h) c f)

pub said_more : (steps : List CellStep) (k : ℕ) (d : CellStep) (c : CellCore) (r : CellReply) (rs rs' : List CellReply) → k < length steps → length rs ≡ k → StateAt steps k c → r ≡ cell_reply c (get_or steps k d) → rs' ≡ rs ++ r ∷ []
    → Said steps k rs → Said steps (k + 1) rs'
said_more steps k d c r rs rs' h long f is more said j x l e = dite (dec_lt j k)
    (λ b. ap (λ q. slice_get q j) more ∙ get_front rs (r ∷ []) j (omega (arith, b, long)) ∙ said j x b e)
    (λ b. let last : j ≡ k = omega arith in let there = get_there steps k d h in
    let x_is : x ≡ get_or steps k d = ap (or_else x) (sym e ∙ ap (slice_get steps) last ∙ there) in
    ap (λ q. slice_get q j) more ∙ ap (slice_get (rs ++ r ∷ [])) (last ∙ sym long) ∙ get_last rs r ∙ ap Some (is ∙ sym (answers steps k (get_or steps k d) there c f) ∙ λ i. told_at steps (sym last i) (sym x_is i)))

-- the report
pub word_is : (steps : List CellStep) (c : CellCore) → StateAt steps (length steps) c → cell_word c ≡ word_after steps
word_is steps c f = λ i. cond (f.0 i) 1 0 + cond (f.1 i) 2 0 + cond (f.2 i) 4 0

swapped : (a b c d h : Bool) (x y u v : Owner) → b ≡ (c && d) → a ≡ d → cond (not a) x (cond b y (cond h u v)) ≡ cond (not d) x (cond c y (cond h u v))
swapped true b true true h x y u v e f = ap (λ w. cond w y (cond h u v)) e
swapped true b false true h x y u v e f = ap (λ w. cond w y (cond h u v)) e
swapped true b c false h x y u v e f = absurd (true≢false f)
swapped false b c true h x y u v e f = absurd (true≢false (sym f))
swapped false b c false h x y u v e f = refl

pub owner_is : (steps : List CellStep) (c : CellCore) → StateAt steps (length steps) c → owner_of c ≡ owner_after steps
owner_is steps c f = swapped c.ended c.back (ltb (first_leave steps) (first_settle steps)) (ltb (first_settle steps) (length steps)) c.had Nowhere Settler Waiter Home f.4 f.1
    ∙ ap (λ w. cond (not (ltb (first_settle steps) (length steps))) Nowhere (cond (ltb (first_leave steps) (first_settle steps)) Settler (cond w Waiter Home))) f.3

-- where the leave came after the settle, the outcome was taken by then
pub leave_taken : (steps : List CellStep) (n : ℕ) → n ≤ length steps → ltb (first_leave steps) (first_settle steps) ≡ false → ltb (first_settle steps) n ≡ true → ltb (first_leave steps) n ≡ true → ltb (taker steps) n ≡ true
leave_taken steps n long late_ ended_ left_ =
    let s = first_settle steps in let l = first_leave steps in let z = first_sleep steps in let t = taker steps in
    let le = ltb-true l n left_ in
    let r = found (λ _ y. is_leave y) 0 steps (omega (arith, le, long)) in
    let leaves : is_leave r.1 ≡ true = here_is (λ _ y. is_leave y) 0 steps r.0 r.1 r.2 r.3 in
    let at_l : l ≡ r.0 = omega (arith, r.3) in
    let apart : s ≢ l = λ q. (leaves_look r.1 leaves).1 (here_is (λ _ y. is_settle y) 0 steps r.0 r.1 r.2 (q ∙ r.3)) in
    let not_before : s ≤ l = ltb-false l s late_ in
    let after : ltb s r.0 ≡ true = lt-ltb s r.0 (omega (arith, at_l, apart, not_before)) in
    let takes : takes_at s l z r.0 r.1 ≡ true = both (not (ltb l s) && ltb s r.0) (looks r.1 || eqb r.0 z) (both (not (ltb l s)) (ltb s r.0) (false_not (ltb l s) late_) after) (or_left (looks r.1) (eqb r.0 z) (leaves_look r.1 leaves).0) in
    let m : r.0 ≡ 0 + r.0 = omega arith in
    let early = hit (takes_at s l z) 0 steps r.0 r.1 r.2 (subst (λ i. takes_at s l z i r.1 ≡ true) m takes) in
    lt-ltb t n (omega (arith, early, at_l, le))

sleeps_only : (x : CellStep) → is_sleep x ≡ true → (is_settle x ≡ true → ⊥)
sleeps_only Sleep e = λ h. true≢false (sym h)
sleeps_only (Settle p) e = absurd (true≢false (sym e))
sleeps_only Poll e = absurd (true≢false (sym e))
sleeps_only Leave e = absurd (true≢false (sym e))
sleeps_only IsLeft e = absurd (true≢false (sym e))

-- where an unspent sleep came after the settle, it is the taker
pub sleep_takes : (steps : List CellStep) (n : ℕ) → n ≤ length steps → ltb (first_sleep steps) n ≡ true → is_late (first_sleep steps) (first_leave steps) (taker steps) ≡ false → ltb (first_sleep steps) (first_settle steps) ≡ false → first_sleep steps ≡ taker steps
sleep_takes steps n long slept_ early_ second =
    let s = first_settle steps in let l = first_leave steps in let z = first_sleep steps in let t = taker steps in
    let le = ltb-true z n slept_ in
    let r = found (λ _ y. is_sleep y) 0 steps (omega (arith, le, long)) in
    let is : is_sleep r.1 ≡ true = here_is (λ _ y. is_sleep y) 0 steps r.0 r.1 r.2 r.3 in
    let at_z : z ≡ r.0 = omega (arith, r.3) in
    let apart : s ≢ z = λ q. sleeps_only r.1 is (here_is (λ _ y. is_settle y) 0 steps r.0 r.1 r.2 (q ∙ r.3)) in
    let not_before : s ≤ z = ltb-false z s second in
    let no_leave : z ≤ l = ltb-false l z (or_off_left (ltb l z) (ltb t z) early_) in
    let no_taker : z ≤ t = ltb-false t z (or_off_right (ltb l z) (ltb t z) early_) in
    let after : ltb s r.0 ≡ true = lt-ltb s r.0 (omega (arith, at_z, apart, not_before)) in
    let open_ : not (ltb l s) ≡ true = false_not (ltb l s) (le-ltb l s (omega (arith, no_leave, not_before))) in
    let takes : takes_at s l z r.0 r.1 ≡ true = both (not (ltb l s) && ltb s r.0) (looks r.1 || eqb r.0 z) (both (not (ltb l s)) (ltb s r.0) open_ after) (or_right (looks r.1) (eqb r.0 z) (eq-eqb r.0 z (sym at_z))) in
    let m : r.0 ≡ 0 + r.0 = omega arith in
    let early = hit (takes_at s l z) 0 steps r.0 r.1 r.2 (subst (λ i. takes_at s l z i r.1 ≡ true) m takes) in
    omega (arith, early, no_taker, at_z)

-- Where each step was told its reply, and there are as many replies as steps, the replies are the history's
told_beyond : (steps all : List CellStep) (rs : List CellReply) (from : ℕ) → length rs ≡ length steps
    → ((k : ℕ) (x : CellStep) → slice_get steps k ≡ Some x → slice_get rs k ≡ Some (told_at all (from + k) x))
    → (k : ℕ) → slice_get rs k ≡ told_there all (from + k) (slice_get steps k)
told_beyond [] all [] from long said k = refl
told_beyond [] all (r ∷ rs) from long said k = absurd (omega (arith, long))
told_beyond (x ∷ xs) all [] from long said k = absurd (omega (arith, long))
told_beyond (x ∷ xs) all (r ∷ rs) from long said zero = said zero x refl
told_beyond (x ∷ xs) all (r ∷ rs) from long said (suc k) =
    let n : from + suc k ≡ suc from + k = omega arith in
    told_beyond xs all rs (suc from) (omega (arith, long)) (λ j y e. let m : from + suc j ≡ suc from + j = omega arith in said (suc j) y e ∙ ap (λ i. Some (told_at all i y)) m) k
    ∙ ap (λ i. told_there all i (slice_get xs k)) (sym n)

pub all_said : (steps : List CellStep) (rs : List CellReply) → length rs ≡ length steps
    → ((k : ℕ) (x : CellStep) → k < length steps → slice_get steps k ≡ Some x → slice_get rs k ≡ Some (told_at steps k x))
    → (k : ℕ) → slice_get rs k ≡ cell_reply_at steps k
all_said steps rs long said k = let n : 0 + k ≡ k = omega arith in
    told_beyond steps steps rs 0 long (λ j x e. let m : j ≡ 0 + j = omega arith in said j x (get_length steps j x e) e ∙ ap (λ i. Some (told_at steps i x)) m) k
    ∙ ap (λ i. told_there steps i (slice_get steps k)) n
