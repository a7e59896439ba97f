-- Each event moves what the line moves.
use Rattle.kanal_journal.proofs.Common.{◌≡◌, ℕ, ◌+◌, true, false, not, eqb, ◌==◌, List, [], ◌∷◌, ◌++◌, length, map, filter, Option, None, refl, sym, ap, ◌∙◌, inl, inr, append-nil, cases_Bool, eq-eqb, eqb-true, Event, Send, Recv, Withdraw, Given, Reply, Waits, Withdrawn, Settlement, LineEntry, Line, bare, waiting, tickets, has, under, holds_ticket, seated, taken, numbered, PairedHistory, Demand, AtOnce, Later, sent, asked, withdrawn_ticket, given, is_gone}
use Rattle.kanal_journal.proofs.Sends.{goes, gone-last, was_taken}
use Rattle.kanal_journal.proofs.Slots.{slot_stays, answered}
use Rattle.kanal_journal.proofs.Settling.{AreApart, entries_still, demands_still, takes, taken_move, none_ends, given_other, withdrawn_move, and_false, or_off, eqb_swap}
use Rattle.kanal_journal.proofs.Holding.{Moves}

module _ {T : Type 0} (h : PairedHistory T) (l : Line T) (same : length h.events ≡ length h.replies) where
  -- nothing enters, leaves or is settled
  abbrev pub moves_quiet : (e : Event T) (r : Reply T) → sent e r ≡ [] → asked e r ≡ [] → withdrawn_ticket e r ≡ [] → Moves h l e r [] [] l
  moves_quiet e r s a w =
      record {
        moved = [];
        line = rw (s, append-nil) (entries_still e r w l.line);
        demands = rw (a, append-nil) (demands_still e r w l.demands);
        goes_waiting = λ t g. absurd (cc (rw w at g));
        send_new = rw s;
        entry_new = rw s;
        demand_new = rw a;
      }

  -- a message enters, with no demand
  pub moves_enter : (e : Event T) (r : Reply T) (m : T) → sent e r ≡ (m, None) ∷ [] → asked e r ≡ [] → withdrawn_ticket e r ≡ [] → l.demands ≡ [] → Moves h l e r [] [] (record l { line = l.line ++ bare m ∷ []; demands = [] })
  moves_enter e r m s a w d =
      record {
        moved = [];
        line = rw s (ap (λ xs. xs ++ bare m ∷ []) (entries_still e r w l.line));
        demands = rw (d, a) refl;
        goes_waiting = λ t g. absurd (cc (rw w at g));
        send_new = rw s refl;
        entry_new = rw s refl;
        demand_new = rw a refl;
      }

  -- the front is taken
  pub moves_take : (e : Event T) (r : Reply T) (n : ℕ) (x : LineEntry T) (xs : List (LineEntry T)) → sent e r ≡ [] → asked e r ≡ AtOnce x.message ∷ [] → withdrawn_ticket e r ≡ [] → l.line ≡ x ∷ xs → l.demands ≡ [] → AreApart (tickets l.line)
      → Moves h l e r (takes T n (tickets (x ∷ under l.capacity xs))) [] (record l { line = seated l.capacity xs })
  moves_take e r n x xs s a w is d apart =
      let parts : AreApart (tickets ((x ∷ []) ++ xs)) = rw is at apart in
      record {
        moved = x.message ∷ [];
        line = rw (is, s, append-nil) (taken_move T n e r w (x ∷ []) xs l.capacity parts);
        demands = rw (d, a) refl;
        goes_waiting = λ t g. absurd (no-goes t g);
        send_new = rw s refl;
        entry_new = rw s refl;
        demand_new = rw a refl;
      }
    where
      no-goes : (t : ℕ) → goes e r (takes T n (tickets (x ∷ under l.capacity xs))) t ≡ true → ⊥
      no-goes t g = let k = rw (w, none_ends T n (tickets (x ∷ under l.capacity xs)) t) at g in absurd (cc)

  -- the message goes to the first demand
  pub moves_given : (e : Event T) (r : Reply T) (n : ℕ) (m : T) (d : ℕ) (ds : List ℕ) → sent e r ≡ (m, None) ∷ [] → asked e r ≡ [] → withdrawn_ticket e r ≡ [] → l.line ≡ [] → l.demands ≡ d ∷ ds → has d ds ≡ false
      → Moves h l e r (numbered n ((d, Given m) ∷ [])) [] (record l { line = []; demands = ds })
  moves_given e r n m d ds s a w is was apart =
      let self : eqb d d ≡ true = eq-eqb d d refl in
      let ss : List (Settlement T) = numbered n ((d, Given m) ∷ []) in
      let still = given_other d m n ds e r w apart in
      record {
        moved = m ∷ [];
        line = rw (is, s) refl;
        demands = rw (was, a, w, and_false (d == d), self) (ap (λ ys. AtOnce m ∷ ys) (append-nil (map (answered ss) (filter (slot_stays e r ss) (map Later ds))) ∙ still));
        goes_waiting = λ t g. absurd (no-goes t g);
        send_new = rw s refl;
        entry_new = rw s refl;
        demand_new = rw a refl;
      }
    where
      no-goes : (t : ℕ) → goes e r (numbered n ((d, Given m) ∷ [])) t ≡ true → ⊥
      no-goes t g = let k = rw (w, and_false (d == t)) at g in absurd (cc)

  -- a withdrawn send
  pub moves_withdraw : (t : ℕ) (w : Option T) → l.demands ≡ [] → has t (tickets l.line) ≡ true → Moves h l (Withdraw t) (Withdrawn w) [] [] (record l { line = filter (λ e. not (holds_ticket t e)) l.line })
  moves_withdraw t w d k =
      record {
        moved = [];
        line = rw append-nil (withdrawn_move t w l.line);
        demands = rw d;
        goes_waiting = λ u g. let e : t ≡ u = eqb-true t u (sym (or_off (t == u)) ∙ g) in rw (← e, d, append-nil) k;
        send_new = refl;
        entry_new = refl;
        demand_new = refl;
      }

  -- a send waits, with a ticket that was never told of
  pub moves_wait : (m : T) (t : ℕ) → l.demands ≡ [] → is_gone h t ≡ false → was_taken h.settled t ≡ false → Moves h l (Send m) (Waits t) [] [] (record l { line = l.line ++ waiting m t ∷ []; next = l.next + 1 })
  moves_wait m t d gone taken =
      record {
        moved = [];
        line = ap (λ xs. xs ++ waiting m t ∷ []) (entries_still (Send m) (Waits t) refl l.line);
        demands = rw d;
        goes_waiting = λ u g. absurd (cc);
        send_new = rw (gone-last h (Send m) (Waits t) [] [] same t, gone);
        entry_new = rw (append-nil, taken);
        demand_new = refl;
      }

  later_map : (ts : List ℕ) (t : ℕ) → map {B = Demand T} Later (ts ++ t ∷ []) ≡ map Later ts ++ Later t ∷ []
  later_map [] t = refl
  later_map (u ∷ ts) t = ap (λ ys. Later u ∷ ys) (later_map ts t)

  -- a receive waits, with a ticket that was never told of
  pub moves_wait_recv : (t : ℕ) → l.line ≡ [] → is_gone h t ≡ false → given h.settled t ≡ None → Moves h l Recv (Waits t) [] [] (record l { demands = l.demands ++ t ∷ []; next = l.next + 1 })
  moves_wait_recv t is gone told =
      record {
        moved = [];
        line = rw is;
        demands = rw (append-nil, told, demands_still Recv (Waits t) refl l.demands) (sym (later_map l.demands t));
        goes_waiting = λ u g. absurd (cc);
        send_new = refl;
        entry_new = refl;
        demand_new = rw (gone-last h Recv (Waits t) [] [] same t, gone);
      }

  demand_withdrawn : (t : ℕ) (w : Option T) (ts : List ℕ) → map (answered []) (filter (slot_stays (Withdraw t) (Withdrawn w) []) (map Later ts)) ≡ map Later (filter (λ u. not (u == t)) ts)
  demand_withdrawn t w [] = refl
  demand_withdrawn t w (u ∷ ts) =
      let rec = demand_withdrawn t w ts in
      elim (cases_Bool (u == t)) [
        | inl e ↦ rw (or_off (t == u), eqb_swap t u, e) rec
        | inr e ↦ rw (or_off (t == u), eqb_swap t u, e) (ap (λ ys. Later u ∷ ys) rec)
      ]

  -- a withdrawn receive
  pub moves_withdraw_demand : (t : ℕ) (w : Option T) → l.line ≡ [] → has t l.demands ≡ true → Moves h l (Withdraw t) (Withdrawn w) [] [] (record l { demands = filter (λ u. not (u == t)) l.demands })
  moves_withdraw_demand t w is k =
      record {
        moved = [];
        line = rw is;
        demands = rw append-nil (demand_withdrawn t w l.demands);
        goes_waiting = λ u g. let e : t ≡ u = eqb-true t u (sym (or_off (t == u)) ∙ g) in rw (← e, is) k;
        send_new = refl;
        entry_new = refl;
        demand_new = refl;
      }
