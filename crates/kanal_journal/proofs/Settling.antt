-- What one step does to the entries and the demands that wait, as the history tells it and as the line has it.
use Rattle.kanal_journal.proofs.Common.{◌≡◌, ℕ, Bool, true, false, not, eqb, ◌==◌, ◌&&◌, ◌||◌, List, [], ◌∷◌, ◌++◌, map, filter, Option, Some, None, refl, sym, ap, ◌∙◌, subst, inl, inr, append-nil, append_assoc, list_any, filter_map, cons_option, option_map, cases_Bool, eqb-true, eqb-false, eq-eqb, ne_eqb, filter-append, filter_map-append, list_any-append, take-append-drop, map-append, Event, Withdraw, Reply, Withdrawn, Reason, Outcome, Taken, Given, Ended, Settlement, LineEntry, bare, messages, tickets, has, under, over, holds_ticket, is_ticket, seated, ended_entry, numbered, Later, withdrawn_ticket, is_ended}
use Rattle.kanal_journal.proofs.Sends.{goes, was_taken, later, ticket_at, ticket_stays}
use Rattle.kanal_journal.proofs.Slots.{slot_stays, answered}

-- the tickets differ from each other
abbrev pub AreApart : List ℕ → Type 0
AreApart [] = Unit {0}
AreApart (t ∷ ts) = (has t ts ≡ false) × AreApart ts

pub and_false : (b : Bool) → (b && false) ≡ false
and_false true = refl
and_false false = refl

and_true : (b : Bool) → (b && true) ≡ b
and_true true = refl
and_true false = refl

pub or_off : (b : Bool) → ((b || false) || false) ≡ b
or_off true = refl
or_off false = refl

pub or_true : (b : Bool) → (b || true) ≡ true
or_true true = refl
or_true false = refl

pub has_self : (u : ℕ) (ts : List ℕ) → has u (u ∷ ts) ≡ true
has_self u ts = rw (eq-eqb u u refl)

pub has_tail : (t u : ℕ) (ts : List ℕ) → has t ts ≡ true → has t (u ∷ ts) ≡ true
has_tail t u ts h = rw (h, or_true (u == t))

has_option : (t : ℕ) (o : Option ℕ) (ts : List ℕ) → has t ts ≡ true → has t (cons_option o ts) ≡ true
has_option t None ts h = h
has_option t (Some u) ts h = has_tail t u ts h

pub apart_has : (xs ys : List ℕ) → AreApart (xs ++ ys) → (t : ℕ) → has t ys ≡ true → has t xs ≡ false
apart_has [] ys a t h = refl
apart_has (x ∷ xs) ys a t h =
    elim (cases_Bool (x == t)) [
      | inl e ↦ absurd (cc (a.0, ap (λ u. has u (xs ++ ys)) (eqb-true x t e), list_any-append (λ u. u == t) xs ys, apart_has xs ys a.1 t h, h))
      | inr e ↦ rw e (apart_has xs ys a.1 t h)
    ]

ticket_still : (T : Type 0) (o : Option ℕ) → ticket_at {T = T} [] o ≡ o
ticket_still T None = refl
ticket_still T (Some t) = refl

pub under-over : {X : Type 0} (c : Option ℕ) (xs : List X) → under c xs ++ over c xs ≡ xs
under-over None xs = append-nil xs
under-over (Some c) xs = take-append-drop c xs

pub or_parts : (a b : Bool) → (a || b) ≡ false → (a ≡ false) × (b ≡ false)
or_parts true b h = absurd (cc)
or_parts false b h = (refl, h)

pub eqb_swap : (a b : ℕ) → eqb a b ≡ eqb b a
eqb_swap a b =
    elim (cases_Bool (eqb a b)) [
      | inl h ↦ h ∙ sym (eq-eqb b a (sym (eqb-true a b h)))
      | inr h ↦ h ∙ sym (ne_eqb b a (λ e. eqb-false a b h (sym e)))
    ]

module _ {T : Type 0} where
  pub seated_all : (xs : List (LineEntry T)) → map bare (messages xs) ≡ map (λ x. bare x.message) xs
  seated_all [] = refl
  seated_all (x ∷ xs) = ap (λ ys. bare x.message ∷ ys) (seated_all xs)

  module _ (e : Event T) (r : Reply T) (none : withdrawn_ticket e r ≡ []) where
    -- a step without settlements leaves all that waits as it is
    goes_none : (t : ℕ) → goes e r [] t ≡ false
    goes_none t = rw none

    stays_none : (o : Option ℕ) → ticket_stays e r [] o ≡ true
    stays_none None = refl
    stays_none (Some t) = rw (goes_none t)

    pub entries_still : (xs : List (LineEntry T)) → map (later []) (filter (λ x. ticket_stays e r [] x.ticket) xs) ≡ xs
    entries_still [] = refl
    entries_still (x ∷ xs) = rw (stays_none x.ticket, ticket_still T x.ticket) (ap (λ ys. x ∷ ys) (entries_still xs))

    pub demands_still : (ts : List ℕ) → map (answered []) (filter (slot_stays e r []) (map Later ts)) ≡ map Later ts
    demands_still [] = refl
    demands_still (t ∷ ts) = rw (goes_none t) (ap (λ ys. Later t ∷ ys) (demands_still ts))

-- settlements of a step that takes tickets
module _ (T : Type 0) (n : ℕ) where
  abbrev pub takes : List ℕ → List (Settlement T)
  takes ts = numbered n (map (λ t. (t, Taken)) ts)

  pub taken_has : (ts : List ℕ) (t : ℕ) → was_taken (takes ts) t ≡ has t ts
  taken_has [] t = refl
  taken_has (u ∷ ts) t = rw (and_true (u == t), taken_has ts t)

  pub none_ends : (ts : List ℕ) (t : ℕ) → list_any (λ s. (s.ticket == t) && is_ended s.outcome) (takes ts) ≡ false
  none_ends [] t = refl
  none_ends (u ∷ ts) t = rw (and_false (u == t), none_ends ts t)

  module _ (e : Event T) (r : Reply T) (none : withdrawn_ticket e r ≡ []) (ts : List ℕ) where
    stays_takes : (o : Option ℕ) → ticket_stays e r (takes ts) o ≡ true
    stays_takes None = refl
    stays_takes (Some t) = rw (none, none_ends ts t)

    pub all_stay : (xs : List (LineEntry T)) → filter (λ x. ticket_stays e r (takes ts) x.ticket) xs ≡ xs
    all_stay [] = refl
    all_stay (x ∷ xs) = rw (stays_takes x.ticket) (ap (λ ys. x ∷ ys) (all_stay xs))

  ticket_taken : (ts : List ℕ) (o : Option ℕ) (us : List ℕ) → ((t : ℕ) → has t (cons_option o us) ≡ true → has t ts ≡ true) → ticket_at (takes ts) o ≡ None
  ticket_taken ts None us h = refl
  ticket_taken ts (Some u) us h = rw (taken_has ts u, h u (has_self u us))

  ticket_left : (ts : List ℕ) (o : Option ℕ) (us : List ℕ) → ((t : ℕ) → has t (cons_option o us) ≡ true → has t ts ≡ false) → ticket_at (takes ts) o ≡ o
  ticket_left ts None us h = refl
  ticket_left ts (Some u) us h = rw (taken_has ts u, h u (has_self u us))

  -- the entries whose tickets are taken wait no more, the others stay as they are
  pub later_taken : (ts : List ℕ) (xs : List (LineEntry T)) → ((t : ℕ) → has t (tickets xs) ≡ true → has t ts ≡ true) → map (later (takes ts)) xs ≡ map (λ x. bare x.message) xs
  later_taken ts [] h = refl
  later_taken ts (x ∷ xs) h = rw (ticket_taken ts x.ticket (tickets xs) h) (ap (λ ys. bare x.message ∷ ys) (later_taken ts xs (λ t g. h t (has_option t x.ticket (tickets xs) g))))

  pub later_left : (ts : List ℕ) (xs : List (LineEntry T)) → ((t : ℕ) → has t (tickets xs) ≡ true → has t ts ≡ false) → map (later (takes ts)) xs ≡ xs
  later_left ts [] h = refl
  later_left ts (x ∷ xs) h = rw (ticket_left ts x.ticket (tickets xs) h) (ap (λ ys. x ∷ ys) (later_left ts xs (λ t g. h t (has_option t x.ticket (tickets xs) g))))

  -- those that leave, and those whose place falls below the capacity, are served or seated; the others wait on
  pub taken_move : (e : Event T) (r : Reply T) → withdrawn_ticket e r ≡ [] → (gone rest : List (LineEntry T)) (c : Option ℕ) → AreApart (tickets (gone ++ rest))
      → map (later (takes (tickets (gone ++ under c rest)))) (filter (λ x. ticket_stays e r (takes (tickets (gone ++ under c rest))) x.ticket) (gone ++ rest)) ≡ map bare (messages gone) ++ seated c rest
  taken_move e r none gone rest c apart =
      let a : List (LineEntry T) = gone ++ under c rest in
      let b : List (LineEntry T) = over c rest in
      let whole : a ++ b ≡ gone ++ rest = append_assoc gone (under c rest) b ∙ ap (λ xs. gone ++ xs) (under-over c rest) in
      let parts : AreApart (tickets a ++ tickets b) = subst AreApart (ap tickets (sym whole) ∙ filter_map-append (λ (x : LineEntry T). x.ticket) a b) apart in
      let one : map (later (takes (tickets a))) a ≡ map (λ x. bare x.message) a = later_taken (tickets a) a (λ t g. g) in
      let two : map (later (takes (tickets a))) b ≡ b = later_left (tickets a) b (apart_has (tickets a) (tickets b) parts) in
      let three : map (λ (x : LineEntry T). bare x.message) a ≡ map bare (messages gone) ++ map (λ x. bare x.message) (under c rest) = map-append _ gone (under c rest) ∙ ap (λ xs. xs ++ map (λ x. bare x.message) (under c rest)) (sym (seated_all gone)) in
      rw (all_stay e r none (tickets a) (gone ++ rest), ← whole, map-append, one, two, three) (append_assoc (map bare (messages gone)) (map (λ x. bare x.message) (under c rest)) b)

-- settlements of a step that ends all waits
module _ (T : Type 0) (n : ℕ) (reason : Reason) where
  -- the tickets that the line and the demands hold are all that ends
  pub ends_has : (line : List (LineEntry T)) (ts : List ℕ) (t : ℕ) → list_any (λ s. (s.ticket == t) && is_ended s.outcome) (numbered n (filter_map (ended_entry reason) line ++ map (λ u. (u, Ended reason None)) ts)) ≡ has t (tickets line ++ ts)
  ends_has [] [] t = refl
  ends_has [] (u ∷ ts) t = rw (and_true (u == t), ends_has [] ts t)
  ends_has (x ∷ xs) ts t = ends_one x.ticket x.message (filter_map (ended_entry reason) xs) (map (λ u. (u, Ended reason None)) ts) (tickets xs) ts t (ends_has xs ts t)
    where
      ends_one : (o : Option ℕ) (m : T) (rest more : List (ℕ × Outcome T)) (us vs : List ℕ) (t : ℕ) → list_any (λ s. (s.ticket == t) && is_ended s.outcome) (numbered n (rest ++ more)) ≡ has t (us ++ vs)
          → list_any (λ s. (s.ticket == t) && is_ended s.outcome) (numbered n (cons_option (option_map (λ u. (u, Ended reason (Some m))) o) rest ++ more)) ≡ has t (cons_option o us ++ vs)
      ends_one None m rest more us vs t h = h
      ends_one (Some u) m rest more us vs t h = rw (and_true (u == t), h)

-- no entry of the list waits; each entry of it waits
module _ {T : Type 0} where
  abbrev pub AllBare : List (LineEntry T) → Type 0
  AllBare [] = Unit {0}
  AllBare (x ∷ xs) = (x.ticket ≡ None) × AllBare xs

  abbrev pub AllWait : List (LineEntry T) → Type 0
  AllWait [] = Unit {0}
  AllWait (x ∷ xs) = (t : ℕ) × (x.ticket ≡ Some t) × AllWait xs

  abbrev pub IsSeated : Option ℕ → List (LineEntry T) → Type 0
  IsSeated c xs = AllBare (under c xs) × AllWait (over c xs)

  pub bare_stay : (e : Event T) (r : Reply T) (ss : List (Settlement T)) (xs : List (LineEntry T)) → AllBare xs → filter (λ x. ticket_stays e r ss x.ticket) xs ≡ xs
  bare_stay e r ss [] h = refl
  bare_stay e r ss (x ∷ xs) h = rw h.0 (ap (λ ys. bare x.message ∷ ys) (bare_stay e r ss xs h.1))

  pub waiting_go : (e : Event T) (r : Reply T) (ss : List (Settlement T)) (xs : List (LineEntry T)) → AllWait xs → ((t : ℕ) → has t (tickets xs) ≡ true → goes e r ss t ≡ true) → filter (λ x. ticket_stays e r ss x.ticket) xs ≡ []
  waiting_go e r ss [] h g = refl
  waiting_go e r ss (x ∷ xs) h g =
      let first : goes e r ss h.0 ≡ true = g h.0 (rw h.1 (has_self h.0 (tickets xs))) in
      rw (h.1, first) (waiting_go e r ss xs h.2 (λ t k. g t (has_option t x.ticket (tickets xs) k)))

  pub bare_later : (ss : List (Settlement T)) (xs : List (LineEntry T)) → AllBare xs → map (later ss) xs ≡ xs
  bare_later ss [] h = refl
  bare_later ss (x ∷ xs) h = rw h.0 (ap (λ ys. bare x.message ∷ ys) (bare_later ss xs h.1))

  -- all that waits goes, the places below the capacity stay
  pub ended_move : (e : Event T) (r : Reply T) (ss : List (Settlement T)) (c : Option ℕ) (line : List (LineEntry T)) → IsSeated c line → ((t : ℕ) → has t (tickets line) ≡ true → goes e r ss t ≡ true)
      → map (later ss) (filter (λ x. ticket_stays e r ss x.ticket) line) ≡ under c line
  ended_move e r ss c line seated g =
      let split = under-over c line in
      let all : (t : ℕ) → has t (tickets (over c line)) ≡ true → goes e r ss t ≡ true = λ t h. g t (rw (← split, filter_map-append (λ (x : LineEntry T). x.ticket) (under c line) (over c line), list_any-append, h, or_true)) in
      let kept : filter (λ (x : LineEntry T). ticket_stays e r ss x.ticket) line ≡ under c line =
      ap (λ xs. filter (λ (x : LineEntry T). ticket_stays e r ss x.ticket) xs) (sym split)
      ∙ (filter-append _ (under c line) (over c line) ∙ rw (bare_stay e r ss (under c line) seated.0, waiting_go e r ss (over c line) seated.1 all) (append-nil _)) in
      rw kept (bare_later ss (under c line) seated.0)

  -- the demand that is first gets the message, the others wait on
  pub given_other : (d : ℕ) (m : T) (n : ℕ) (ts : List ℕ) (e : Event T) (r : Reply T) → withdrawn_ticket e r ≡ [] → has d ts ≡ false
      → map (answered (numbered n ((d, Given m) ∷ []))) (filter (slot_stays e r (numbered n ((d, Given m) ∷ []))) (map Later ts)) ≡ map Later ts
  given_other d m n [] e r none h = refl
  given_other d m n (t ∷ ts) e r none h =
      let parts = or_parts (t == d) (has d ts) h in
      let differ : eqb d t ≡ false = ne_eqb d t (λ e. eqb-false t d parts.0 (sym e)) in
      rw (none, differ, differ) (ap (λ ys. Later t ∷ ys) (given_other d m n ts e r none parts.1))

  same_test : (t : ℕ) (w : Option T) (o : Option ℕ) → ticket_stays (Withdraw t) (Withdrawn w) [] o ≡ not (is_ticket t o)
  same_test t w None = refl
  same_test t w (Some u) = rw (eqb_swap t u) (ap not (or_off (eqb u t)))

  -- the withdrawn ticket's entry goes, the others stay
  pub withdrawn_move : (t : ℕ) (w : Option T) (xs : List (LineEntry T)) → map (later []) (filter (λ x. ticket_stays (Withdraw t) (Withdrawn w) [] x.ticket) xs) ≡ filter (λ x. not (holds_ticket t x)) xs
  withdrawn_move t w [] = refl
  withdrawn_move t w (x ∷ xs) =
      let rec = withdrawn_move t w xs in
      elim (cases_Bool (is_ticket t x.ticket)) [
        | inl h ↦ rw (same_test t w x.ticket, h) rec
        | inr h ↦ rw (same_test t w x.ticket, h, ticket_still T x.ticket) (ap (λ ys. x ∷ ys) rec)
      ]
