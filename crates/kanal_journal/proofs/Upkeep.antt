-- What holds at a cut holds one step later.
use Rattle.kanal_journal.proofs.Common.{◌≡◌, ℕ, ◌+◌, ◌≤◌, ◌<◌, ◌⊎◌, Bool, true, false, ◌||◌, List, [], ◌∷◌, ◌++◌, length, Option, Some, None, refl, sym, ap, ◌∙◌, inl, inr, arith, length-append, sum_by, is_some, option_or, or_cases, false≢true, sum_by-append, Event, Reply, Settlement, Line, has, PairedHistory, Demand, AtOnce, Later, Next, along, asked, is_gone, given, demands, cleared_by}
use Rattle.kanal_journal.proofs.Sends.{along-last, was_taken, longer, goes, gone-last, taken-last}
use Rattle.kanal_journal.proofs.Slots.{given-append, nexts}
use Rattle.kanal_journal.proofs.Settling.{AreApart, IsSeated}
use Rattle.kanal_journal.proofs.Holding.{waits, is_known, Holds, Moves, next_entries, next_slots, nexts_filter}

or_three : (a b c x y z : Bool) → ((a || x) || ((b || y) || (c || z))) ≡ ((a || (b || c)) || (x || (y || z)))
or_three true b c x y z = refl
or_three false true c true y z = refl
or_three false true c false y z = refl
or_three false false true true y z = refl
or_three false false true false true z = refl
or_three false false true false false z = refl
or_three false false false x y z = refl

module _ {T : Type 0} where
  some_or : (a b : Option T) → is_some (option_or a b) ≡ (is_some a || is_some b)
  some_or None b = refl
  some_or (Some m) b = refl

  -- this step tells of the ticket
  abbrev pub is_now : Event T → Reply T → List (Settlement T) → ℕ → Bool
  is_now e r ss t = goes e r ss t || (was_taken ss t || is_some (given ss t))

  nexts-append : (xs ys : List (Demand T)) → nexts (xs ++ ys) ≡ nexts xs + nexts ys
  nexts-append [] ys = omega arith
  nexts-append (AtOnce m ∷ xs) ys = nexts-append xs ys
  nexts-append (Later t ∷ xs) ys = nexts-append xs ys
  nexts-append (Next ∷ xs) ys = omega (arith, nexts-append xs ys)

  pub record Clean (l : Line T) (e : Event T) (r : Reply T) (ss : List (Settlement T)) (ms : List T) (new : Line T) : Type 0 where
    pub told_of : (t : ℕ) → is_now e r ss t ≡ true → (has t (waits l) ≡ true) × (has t (waits new) ≡ false)
    pub waits_of : (t : ℕ) → has t (waits new) ≡ true → (has t (waits l) ≡ true) ⊎ ((t ≡ l.next) × (l.next < new.next))
    pub rises : l.next ≤ new.next
    pub one : (new.line ≡ []) ⊎ (new.demands ≡ [])
    pub apart : AreApart (waits new)
    pub seats : IsSeated new.capacity new.line
    pub drains : nexts (asked e r) ≡ length ms

  module _ (h : PairedHistory T) (l : Line T) (now : Holds h l) (e : Event T) (r : Reply T) (ss : List (Settlement T)) (ms : List T) (new : Line T) (clean : Clean l e r ss ms new) where
    known_last : (t : ℕ) → is_known (longer h e r ss ms) t ≡ (is_known h t || is_now e r ss t)
    known_last t =
        rw (gone-last h e r ss ms now.same t, taken-last h e r ss ms now.same t, given-append h.settled ss t, some_or)
        (or_three (is_gone h t) (was_taken h.settled t) (is_some (given h.settled t)) (goes e r ss t) (was_taken ss t) (is_some (given ss t)))

    pub below_last : (t : ℕ) → has t (waits new) ≡ true → t < new.next
    below_last t w =
        let rises = clean.rises in
        elim (clean.waits_of t w) [
          | inl old ↦ let small = now.below t old in omega arith
          | inr fresh ↦ omega arith
        ]

    still : (t : ℕ) → t < l.next → has t (waits l) ≡ false → (b : Bool) → has t (waits new) ≡ b → has t (waits new) ≡ false
    still t small off false is = is
    still t small off true is =
        elim (clean.waits_of t is) [
          | inl old ↦ absurd (false≢true (sym off ∙ old))
          | inr fresh ↦ absurd (omega arith)
        ]

    pub known_next : (t : ℕ) → is_known (longer h e r ss ms) t ≡ true → (t < new.next) × (has t (waits new) ≡ false)
    known_next t k =
        let rises = clean.rises in
        elim (or_cases (is_known h t) (is_now e r ss t) (sym (known_last t) ∙ k)) [
          | inl old ↦ let was = now.known t old in (omega arith, still t was.0 was.1 (has t (waits new)) refl)
          | inr told ↦ let is = clean.told_of t told in let small = now.below t is.0 in (omega arith, is.1)
        ]

    pub same-next : length (h.events ++ e ∷ []) ≡ length (h.replies ++ r ∷ [])
    same-next = let s = now.same in omega (arith, length-append h.events (e ∷ []), length-append h.replies (r ∷ []))

    pub drained-next : nexts (demands (longer h e r ss ms)) ≡ length (h.drained ++ ms)
    drained-next =
        let a = nexts_filter (longer h e r ss ms) (along asked (h.events ++ e ∷ []) (h.replies ++ r ∷ [])) in
        let b = nexts_filter h (along asked h.events h.replies) in
        let c = now.all_drained in
        let d = clean.drains in
        omega (arith, ap nexts (along-last asked h.events h.replies e r now.same), nexts-append (along asked h.events h.replies) (asked e r), length-append h.drained ms)

  module _ (h : PairedHistory T) (l : Line T) (now : Holds h l) (e : Event T) (r : Reply T) (ss : List (Settlement T)) (ms : List T) (new : Line T) (move : Moves h l e r ss ms new) (clean : Clean l e r ss ms new) where
    pub holds_next : cleared_by r ≡ 0 → sum_by cleared_by h.replies ≡ 0 → Holds (longer h e r ss ms) new
    holds_next quiet z =
        record {
          same = same-next h l now e r ss ms new clean;
          served = now.served ++ move.moved;
          entries_is = next_entries h l now e r ss ms new move quiet z;
          slots_is = next_slots h l now e r ss ms new move;
          one = clean.one;
          shut = inl (omega (arith, sum_by-append cleared_by h.replies (r ∷ [])));
          all_drained = drained-next h l now e r ss ms new clean;
          known = known_next h l now e r ss ms new clean;
          below = below_last h l now e r ss ms new clean;
          apart = clean.apart;
          seats = clean.seats;
        }
