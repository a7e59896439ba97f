-- Each kind of step keeps what is known of tickets and places.
use Rattle.kanal_journal.proofs.Common.{◌≡◌, ℕ, ◌≤◌, ◌<◌, ◌⊎◌, Bool, true, false, not, ◌==◌, ◌||◌, List, [], ◌∷◌, ◌++◌, length, filter, Option, Some, None, refl, sym, ap, ◌∙◌, subst, inl, inr, arith, append-nil, append_assoc, cases_Bool, false≢true, eqb-true, Given, LineEntry, Line, bare, waiting, tickets, has, under, over, is_below, holds_ticket, seated, wait_send, wait_recv, without_entry, without_demand, Event, Withdraw, Reply, Withdrawn, numbered, asked, withdrawn_ticket, given}
use Rattle.kanal_journal.proofs.Sends.{was_taken}
use Rattle.kanal_journal.proofs.Slots.{nexts}
use Rattle.kanal_journal.proofs.Settling.{AreApart, AllWait, IsSeated, takes, taken_has, none_ends, has_tail, or_off, or_true, under-over, apart_has}
use Rattle.kanal_journal.proofs.Seats.{seats_seated, seats_entered, seats_waiting, seats_withdrawn, tickets_seated, apart_suffix}
use Rattle.kanal_journal.proofs.Holding.{waits}
use Rattle.kanal_journal.proofs.Upkeep.{Clean, is_now}
use Rattle.kanal_journal.proofs.Tickets.{has-append, has-last, apart-last, but, but-has, but-less, but-apart, tickets-without, tickets-append, bare-tickets, over-tail}

no-true : (b : Bool) → b ≡ false → b ≡ true → ⊥
no-true b f t = false≢true (sym f ∙ t)

module _ {T : Type 0} (n : ℕ) where
  -- takes give nothing
  none-given : (ts : List ℕ) (t : ℕ) → given (takes T n ts) t ≡ None
  none-given [] t = refl
  none-given (u ∷ ts) t = elim (cases_Bool (u == t)) [ inl e ↦ rw e (none-given ts t) | inr e ↦ rw e (none-given ts t) ]

pub or-none : (b : Bool) → (b || false) ≡ b
or-none true = refl
or-none false = refl

-- what waits after some have left had waited before
pub later-there : (t : ℕ) (gone left before after : List ℕ) → gone ++ left ≡ before → after ≡ left → has t after ≡ true → has t before ≡ true
later-there t gone left before after parts is h = rw (← parts, has-append t gone left, ← is, h) (or_true (has t gone))

module _ {T : Type 0} (n : ℕ) (e : Event T) (r : Reply T) (none : withdrawn_ticket e r ≡ []) where
  -- what is taken had waited, and waits no more
  pub taken-now : (t : ℕ) (gone left before after : List ℕ) → gone ++ left ≡ before → after ≡ left → AreApart (gone ++ left) → is_now e r (takes T n gone) t ≡ true → (has t before ≡ true) × (has t after ≡ false)
  taken-now t gone left before after parts is apart h =
      let k : has t gone ≡ true = sym (taken_has T n gone t) ∙ (sym (or-none (was_taken (takes T n gone) t)) ∙ rw (none, none_ends T n gone t, none-given n gone t) at h) in (
        rw (← parts, has-append t gone left, k) refl,
        elim (cases_Bool (has t after)) [
          | inl y ↦ absurd (no-true (has t gone) (apart_has gone left apart t (ap (has t) (sym is) ∙ y)) k)
          | inr y ↦ y
        ],
      )

module _ {T : Type 0} (l : Line T) (e : Event T) (r : Reply T) (one : (l.line ≡ []) ⊎ (l.demands ≡ [])) (apart : AreApart (waits l)) (seats : IsSeated l.capacity l.line) (below : (t : ℕ) → has t (waits l) ≡ true → t < l.next) (none : withdrawn_ticket e r ≡ []) where
  nothing-now : (t : ℕ) → is_now e r [] t ≡ true → ⊥
  nothing-now t h = let k = rw none at h in false≢true k

  pub clean_quiet : asked e r ≡ [] → Clean l e r [] [] l
  clean_quiet a =
      record {
        told_of = λ t h. absurd (nothing-now t h);
        waits_of = λ t h. inl h;
        rises = omega arith;
        one = one;
        apart = apart;
        seats = seats;
        drains = rw a refl;
      }

  pub clean_enter : (m : T) → asked e r ≡ [] → l.demands ≡ [] → is_below (length l.line) l.capacity ≡ true → Clean l e r [] [] (record l { line = l.line ++ bare m ∷ []; demands = [] })
  clean_enter m a d b =
      let same : waits (record l { line = l.line ++ bare m ∷ []; demands = [] }) ≡ waits l = rw (tickets-append l.line (bare m ∷ []), d, append-nil) refl in
      record {
        told_of = λ t h. absurd (nothing-now t h);
        waits_of = λ t h. inl (ap (has t) (sym same) ∙ h);
        rises = omega arith;
        one = inr refl;
        apart = rw same apart;
        seats = seats_entered l.capacity l.line m b seats;
        drains = rw a refl;
      }

  pub clean_wait_send : (m : T) (c : ℕ) → asked e r ≡ [] → l.demands ≡ [] → l.capacity ≡ Some c → c ≤ length l.line → Clean l e r [] [] (wait_send l m)
  clean_wait_send m c a d k full =
      let same : waits (wait_send l m) ≡ waits l ++ l.next ∷ [] = rw (tickets-append l.line (waiting m l.next ∷ []), d, append-nil, append-nil) refl in
      let new_ : has l.next (waits l) ≡ false = elim (cases_Bool (has l.next (waits l))) [ inl y ↦ absurd (let s = below l.next y in omega arith) | inr y ↦ y ] in
      record {
        told_of = λ t h. absurd (nothing-now t h);
        waits_of = λ t h. elim (has-last t l.next (waits l) (ap (has t) (sym same) ∙ h)) [ inl y ↦ inl y | inr y ↦ inr (y, omega arith) ];
        rises = omega arith;
        one = inr d;
        apart = rw same (apart-last (waits l) l.next new_ apart);
        seats = rw k (seats_waiting c l.line m l.next full (rw k at seats));
        drains = rw a refl;
      }

  pub clean_wait_recv : nexts (asked e r) ≡ 0 → l.line ≡ [] → Clean l e r [] [] (wait_recv l)
  clean_wait_recv a is =
      let same : waits (wait_recv l) ≡ waits l ++ l.next ∷ [] = sym (append_assoc (tickets l.line) l.demands (l.next ∷ [])) in
      let new_ : has l.next (waits l) ≡ false = elim (cases_Bool (has l.next (waits l))) [ inl y ↦ absurd (let s = below l.next y in omega arith) | inr y ↦ y ] in
      record {
        told_of = λ t h. absurd (nothing-now t h);
        waits_of = λ t h. elim (has-last t l.next (waits l) (ap (has t) (sym same) ∙ h)) [ inl y ↦ inl y | inr y ↦ inr (y, omega arith) ];
        rises = omega arith;
        one = inl is;
        apart = rw same (apart-last (waits l) l.next new_ apart);
        seats = seats;
        drains = a;
      }

  pub clean_given : (n : ℕ) (m : T) (d : ℕ) (ds : List ℕ) → asked e r ≡ [] → l.line ≡ [] → l.demands ≡ d ∷ ds → Clean l e r (numbered n ((d, Given m) ∷ [])) [] (record l { line = []; demands = ds })
  clean_given n m d ds a is was =
      let all : AreApart (d ∷ ds) = rw (is, was) at apart in
      record {
        told_of = λ t h. given-now t h all;
        waits_of = λ t h. inl (rw (is, was) (has_tail t d ds h));
        rises = omega arith;
        one = inl refl;
        apart = all.1;
        seats = rw is at seats;
        drains = rw a refl;
      }
    where
      given-now : (t : ℕ) → is_now e r (numbered n ((d, Given m) ∷ [])) t ≡ true → AreApart (d ∷ ds) → (has t (waits l) ≡ true) × (has t (waits (record l { line = []; demands = ds })) ≡ false)
      given-now t h all =
          elim (cases_Bool (d == t)) [
            | inl y ↦ let same : d ≡ t = eqb-true d t y in (rw (is, was, y) refl, subst (λ u. has u ds ≡ false) same all.0)
            | inr y ↦ absurd (let k = rw (none, y) at h in false≢true k)
          ]

  pub clean_take : (n : ℕ) (x : LineEntry T) (xs : List (LineEntry T)) → nexts (asked e r) ≡ 0 → l.line ≡ x ∷ xs → l.demands ≡ [] → Clean l e r (takes T n (tickets (x ∷ under l.capacity xs))) [] (record l { line = seated l.capacity xs })
  clean_take n x xs a is d =
      let gone = x ∷ under l.capacity xs in
      let left = over l.capacity xs in
      let parts : tickets gone ++ tickets left ≡ waits l = sym (tickets-append gone left) ∙ (ap (λ ys. tickets (x ∷ ys)) (under-over l.capacity xs) ∙ rw (is, d, append-nil) refl) in
      let after : waits (record l { line = seated l.capacity xs }) ≡ tickets left = rw (d, append-nil) (tickets_seated l.capacity xs) in
      let whole : AreApart (tickets gone ++ tickets left) = rw parts apart in
      let waiting_left : AllWait left = over-tail l.capacity x xs (subst (λ ys. AllWait (over l.capacity ys)) is seats.1) in
      record {
        told_of = λ t h. taken-now n e r none t (tickets gone) (tickets left) (waits l) (waits (record l { line = seated l.capacity xs })) parts after whole h;
        waits_of = λ t h. inl (later-there t (tickets gone) (tickets left) (waits l) (waits (record l { line = seated l.capacity xs })) parts after h);
        rises = omega arith;
        one = inr d;
        apart = rw after (apart_suffix (tickets gone) (tickets left) whole);
        seats = seats_seated l.capacity xs waiting_left;
        drains = a;
      }

module _ {T : Type 0} (l : Line T) (t : ℕ) (w : Option T) (apart : AreApart (waits l)) (seats : IsSeated l.capacity l.line) where
  -- only the withdrawn ticket is told of
  now-told : (u : ℕ) → is_now (Withdraw t) (Withdrawn w) [] u ≡ true → t ≡ u
  now-told u h = eqb-true t u (sym (or_off (t == u)) ∙ (sym (or-none (((t == u) || false) || false)) ∙ h))

  pub clean_withdraw_entry : l.demands ≡ [] → has t (tickets l.line) ≡ true → Clean l (Withdraw t) (Withdrawn w) [] [] (without_entry l t)
  clean_withdraw_entry d there =
      let before : waits l ≡ tickets l.line = rw (d, append-nil) refl in
      let after : waits (without_entry l t) ≡ but t (tickets l.line) = rw (d, append-nil) (tickets-without t l.line) in
      record {
        told_of = λ u h. let same = now-told u h in (subst (λ v. has v (waits l) ≡ true) same (ap (has t) before ∙ there), subst (λ v. has v (waits (without_entry l t)) ≡ false) same (ap (has t) after ∙ but-has t (tickets l.line)));
        waits_of = λ u h. inl (ap (has u) before ∙ but-less t u (tickets l.line) (sym (ap (has u) after) ∙ h));
        rises = omega arith;
        one = inr d;
        apart = rw after (but-apart t (tickets l.line) (rw before at apart));
        seats = seats-left l.capacity refl;
        drains = refl;
      }
    where
      seats-left : (c : Option ℕ) → l.capacity ≡ c → IsSeated l.capacity (filter (λ x. not (holds_ticket t x)) l.line)
      seats-left None is = absurd (no-true (has t (tickets l.line)) (ap (has t) (bare-tickets l.line (rw is at seats).0)) there)
      seats-left (Some c) is = rw is (seats_withdrawn c t l.line (rw is at seats))

  pub clean_withdraw_demand : l.line ≡ [] → has t l.demands ≡ true → Clean l (Withdraw t) (Withdrawn w) [] [] (without_demand l t)
  clean_withdraw_demand is there =
      let before : waits l ≡ l.demands = rw is refl in
      let after : waits (without_demand l t) ≡ but t l.demands = rw is refl in
      record {
        told_of = λ u h. let same = now-told u h in (subst (λ v. has v (waits l) ≡ true) same (ap (has t) before ∙ there), subst (λ v. has v (waits (without_demand l t)) ≡ false) same (ap (has t) after ∙ but-has t l.demands));
        waits_of = λ u h. inl (ap (has u) before ∙ but-less t u l.demands (sym (ap (has u) after) ∙ h));
        rises = omega arith;
        one = inl is;
        apart = rw after (but-apart t l.demands (rw before at apart));
        seats = seats;
        drains = refl;
      }
