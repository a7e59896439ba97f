-- Ends: a close and a last drop. Steps that change nothing but a count.
use Rattle.kanal_journal.proofs.Common.{◌≡◌, ℕ, ◌-◌, zero, suc, Bool, true, false, ◌==◌, ◌||◌, List, [], ◌∷◌, ◌++◌, length, map, filter, take, drop, Option, Some, None, refl, sym, ap, ◌∙◌, inl, inr, arith, append-nil, length-append, filter_map, cons_option, sum_by, option_map, is_some, cases_Bool, false≢true, take_at, take-take, sum_by-append, list_any-append, Reason, Closed as ByClose, Outcome, Ended, LineEntry, Line, bare, tickets, has, under, ended, ended_entry, close, cleared, Event, Close, Reply, Cleared, Settlement, numbered, PairedHistory, AtOnce, Later, sent, asked, withdrawn_ticket, cleared_by, without_last, given}
use Rattle.std.proofs.Math.ListN.{length-map}
use Rattle.kanal_journal.proofs.Sends.{goes, longer, entries, was_taken}
use Rattle.kanal_journal.proofs.Slots.{slot_stays, entries_last}
use Rattle.kanal_journal.proofs.Settling.{IsSeated, AllBare, entries_still, ended_move, ends_has, has_tail, has_self, or_true}
use Rattle.kanal_journal.proofs.Holding.{Holds, Moves, waits, all_entries, next_slots}
use Rattle.kanal_journal.proofs.EachEvent.{moves_quiet}
use Rattle.kanal_journal.proofs.Tickets.{bare-tickets}
use Rattle.kanal_journal.proofs.Upkeep.{Clean, is_now, known_next, below_last, same-next, drained-next, holds_next}
use Rattle.kanal_journal.proofs.Cleaning.{clean_quiet, or-none}

pub seats-none : (T : Type 0) (c : Option ℕ) → IsSeated {T = T} c []
seats-none T None = (tt, tt)
seats-none T (Some zero) = (tt, tt)
seats-none T (Some (suc c)) = (tt, tt)

without-end : {X : Type 0} (xs ys : List X) (n : ℕ) → length ys ≡ n → without_last n (xs ++ ys) ≡ xs
without-end xs ys n h = take_at xs ys (length (xs ++ ys) - n) (omega (arith, length-append xs ys))

-- the settlements take the ticket, or give to it
abbrev pub is_told : {T : Type 0} → List (Settlement T) → ℕ → Bool
is_told ss t = was_taken ss t || is_some (given ss t)

ends-demands : (T : Type 0) (reason : Reason) (n t : ℕ) (ts : List ℕ) → is_told {T = T} (numbered n (map {B = ℕ × Outcome T} (λ u. (u, Ended reason None)) ts)) t ≡ false
ends-demands T reason n t [] = refl
ends-demands T reason n t (u ∷ ts) = elim (cases_Bool (u == t)) [ inl e ↦ rw e (ends-demands T reason n t ts) | inr e ↦ rw e (ends-demands T reason n t ts) ]

drop-taken : {X : Type 0} (k : ℕ) (xs : List X) → drop k (take k xs) ≡ []
drop-taken zero xs = refl
drop-taken (suc k) [] = refl
drop-taken (suc k) (x ∷ xs) = drop-taken k xs

-- the places below the capacity are seated by themselves
seats-under : (T : Type 0) (c : Option ℕ) (xs : List (LineEntry T)) → AllBare (under c xs) → IsSeated c (under c xs)
seats-under T None xs a = (a, tt)
seats-under T (Some k) xs a = (rw (take-take k k xs (omega arith)) a, rw (drop-taken k xs) tt)

module _ {T : Type 0} where
  none-left : (e : Event T) (r : Reply T) (ss : List (Settlement T)) (ts : List ℕ) → ((t : ℕ) → has t ts ≡ true → goes e r ss t ≡ true) → filter (slot_stays e r ss) (map Later ts) ≡ []
  none-left e r ss [] g = refl
  none-left e r ss (u ∷ ts) g = rw (g u (has_self u ts)) (none-left e r ss ts (λ t k. g t (has_tail t u ts k)))

  -- what ends is neither taken nor given
  ends-told : (reason : Reason) (n t : ℕ) (xs : List (LineEntry T)) (ts : List ℕ) → is_told (numbered n (filter_map (ended_entry reason) xs ++ map (λ u. (u, Ended reason None)) ts)) t ≡ false
  ends-told reason n t [] ts = ends-demands T reason n t ts
  ends-told reason n t (x ∷ xs) ts = end-more n t x.ticket x.message (filter_map (ended_entry reason) xs) (map (λ u. (u, Ended reason None)) ts) (ends-told reason n t xs ts)
    where
      end-more : (n t : ℕ) (o : Option ℕ) (m : T) (rest more : List (ℕ × Outcome T)) → is_told (numbered n (rest ++ more)) t ≡ false → is_told (numbered n (cons_option (option_map (λ u. (u, Ended reason (Some m))) o) rest ++ more)) t ≡ false
      end-more n t None m rest more h = h
      end-more n t (Some u) m rest more h = elim (cases_Bool (u == t)) [ inl e ↦ rw e h | inr e ↦ rw e h ]

  -- a step that ends all that waits, and lets nothing enter or leave
  module _ (h : PairedHistory T) (l : Line T) (now : Holds h l) (n : ℕ) (e : Event T) (r : Reply T) (s : sent e r ≡ []) (a : asked e r ≡ []) (w : withdrawn_ticket e r ≡ []) (reason : Reason) (senders receivers : ℕ) where
    abbrev ss : List (Settlement T)
    ss = numbered n (ended reason l)

    abbrev kept_line : Line T
    kept_line = record l { line = under l.capacity l.line; demands = []; senders = senders; receivers = receivers }

    goes-all : (t : ℕ) → goes e r ss t ≡ has t (waits l)
    goes-all t = rw w (ends_has T n reason l.line l.demands t)

    abbrev moves_end : Moves h l e r ss [] kept_line
    moves_end =
        let in_line : (t : ℕ) → has t (tickets l.line) ≡ true → has t (waits l) ≡ true = λ t k. rw (list_any-append (λ u. u == t) (tickets l.line) l.demands, k) refl in
        let in_demands : (t : ℕ) → has t l.demands ≡ true → has t (waits l) ≡ true = λ t k. rw (list_any-append (λ u. u == t) (tickets l.line) l.demands, k) (or_true (has t (tickets l.line))) in
        record {
          moved = [];
          line = rw s (append-nil _ ∙ ended_move e r ss l.capacity l.line now.seats (λ t k. goes-all t ∙ in_line t k));
          demands = rw (none-left e r ss l.demands (λ t k. goes-all t ∙ in_demands t k), a) refl;
          goes_waiting = λ t g. sym (goes-all t) ∙ g;
          send_new = rw s refl;
          entry_new = rw s refl;
          demand_new = rw a refl;
        }

    told-end : (t : ℕ) → is_now e r ss t ≡ true → has t (waits l) ≡ true
    told-end t k = sym (goes-all t) ∙ (sym (or-none (goes e r ss t)) ∙ (ap (λ b. goes e r ss t || b) (sym (ends-told reason n t l.line l.demands)) ∙ k))

    clean_end : Clean l e r ss [] kept_line
    clean_end =
        let nobody : waits kept_line ≡ [] = append-nil _ ∙ bare-tickets (under l.capacity l.line) now.seats.0 in
        record {
          told_of = λ t k. (told-end t k, rw nobody refl);
          waits_of = λ t k. absurd (false≢true (rw nobody at k));
          rises = omega arith;
          one = inr refl;
          apart = rw nobody tt;
          seats = seats-under T l.capacity l.line now.seats.0;
          drains = rw a refl;
        }

    -- the places below the capacity stay
    pub holds_end : cleared_by r ≡ 0 → sum_by cleared_by h.replies ≡ 0 → Holds (longer h e r ss []) kept_line
    holds_end quiet z = holds_next h l now e r ss [] kept_line moves_end clean_end quiet z

  module _ (h : PairedHistory T) (l : Line T) (now : Holds h l) (n : ℕ) where
    abbrev reply : Reply T
    reply = Cleared (length (cleared l))

    abbrev ends : List (Settlement T)
    ends = numbered n (ended ByClose l)

    clean_close : Clean l Close reply ends [] (close l).line
    clean_close =
        record {
          told_of = λ t k. (told-end h l now n Close reply refl refl refl ByClose 0 0 t k, refl);
          waits_of = λ t k. absurd (false≢true k);
          rises = omega arith;
          one = inl refl;
          apart = tt;
          seats = seats-none T l.capacity;
          drains = refl;
        }

    -- after a close nothing is left
    pub holds_close : sum_by cleared_by h.replies ≡ 0 → Holds (longer h Close reply ends []) (close l).line
    holds_close z =
        let count : sum_by cleared_by (h.replies ++ reply ∷ []) ≡ length (cleared l) = omega (arith, sum_by-append cleared_by h.replies (reply ∷ [])) in
        let all = all_entries h l now Close reply ends [] (kept_line h l now n Close reply refl refl refl ByClose 0 0) (moves_end h l now n Close reply refl refl refl ByClose 0 0) z in
        let long : length (under l.capacity l.line) ≡ length (cleared l) = sym (simp length-map refl) in
        record {
          same = same-next h l now Close reply ends [] (close l).line clean_close;
          served = now.served;
          entries_is =
              ap (λ k. without_last k (entries (longer h Close reply ends []))) count
              ∙ (ap (without_last (length (cleared l))) (all ∙ ap (λ ms. map bare ms ++ under l.capacity l.line) (append-nil now.served)) ∙ (without-end (map bare now.served) (under l.capacity l.line) (length (cleared l)) long ∙ sym (append-nil (map bare now.served))));
          slots_is = next_slots h l now Close reply ends [] (kept_line h l now n Close reply refl refl refl ByClose 0 0) (moves_end h l now n Close reply refl refl refl ByClose 0 0) ∙ ap (λ ms. map AtOnce ms ++ []) (append-nil now.served);
          one = inl refl;
          shut = inr (refl, refl, refl, refl);
          all_drained = drained-next h l now Close reply ends [] (close l).line clean_close;
          known = known_next h l now Close reply ends [] (close l).line clean_close;
          below = below_last h l now Close reply ends [] (close l).line clean_close;
          apart = tt;
          seats = seats-none T l.capacity;
        }

    -- a step that changes nothing keeps what holds
    pub holds_quiet : (e : Event T) (r : Reply T) → sent e r ≡ [] → asked e r ≡ [] → withdrawn_ticket e r ≡ [] → cleared_by r ≡ 0 → Holds (longer h e r [] []) l
    holds_quiet e r s a w q =
        let move = moves_quiet h l now.same e r s a w in
        let clean = clean_quiet l e r now.one now.apart now.seats now.below w a in
        let none : (t : ℕ) → was_taken h.settled t ≡ true → goes e r [] t ≡ false = λ t k. rw w refl in
        let count : sum_by cleared_by (h.replies ++ r ∷ []) ≡ sum_by cleared_by h.replies = omega (arith, sum_by-append cleared_by h.replies (r ∷ [])) in
        let still : entries (longer h e r [] []) ≡ entries h = entries_last h e r [] [] now.same none (rw s refl) (rw s refl) ∙ rw (s, append-nil) (entries_still e r w (entries h)) in
        record {
          same = same-next h l now e r [] [] l clean;
          served = now.served;
          entries_is = ap (λ k. without_last k (entries (longer h e r [] []))) count ∙ (ap (without_last (sum_by cleared_by h.replies)) still ∙ now.entries_is);
          slots_is = next_slots h l now e r [] [] l move ∙ ap (λ ms. map AtOnce ms ++ map Later l.demands) (append-nil now.served);
          one = now.one;
          shut = elim now.shut [ inl z ↦ inl (count ∙ z) | inr z ↦ inr z ];
          all_drained = drained-next h l now e r [] [] l clean;
          known = known_next h l now e r [] [] l clean;
          below = below_last h l now e r [] [] l clean;
          apart = now.apart;
          seats = now.seats;
        }

    -- and so does a count that rises or falls, where a count of 0 stays
    pub holds_counts : (senders receivers : ℕ) → (l.senders ≡ 0 → senders ≡ 0) → (l.receivers ≡ 0 → receivers ≡ 0) → Holds h (record l { senders = senders; receivers = receivers })
    holds_counts senders receivers s r =
        record {
          same = now.same;
          served = now.served;
          entries_is = now.entries_is;
          slots_is = now.slots_is;
          one = now.one;
          shut = elim now.shut [ inl z ↦ inl z | inr z ↦ inr (s z.0, r z.1, z.2, z.3) ];
          all_drained = now.all_drained;
          known = now.known;
          below = now.below;
          apart = now.apart;
          seats = now.seats;
        }
