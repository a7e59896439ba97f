-- What holds of a history and the line at every cut, and what follows.
use Rattle.kanal_journal.proofs.Common.{◌≡◌, ℕ, ◌+◌, ◌-◌, ◌<◌, ◌⊎◌, suc, Bool, true, false, ◌||◌, List, [], ◌∷◌, ◌++◌, length, map, filter, Option, Some, refl, sym, ap, ◌∙◌, inl, inr, arith, append_assoc, length-append, sum_by, is_some, take-map, map-append, Event, Reply, Settlement, LineEntry, Line, bare, messages, tickets, has, PairedHistory, Demand, AtOnce, Later, Next, along, sent, is_gone, given, send_stays, demands, cleared_by, without_last, kept, receipts, ArePaired, Paired, sum_by-append, take_all, cases_Bool, false≢true, asked, demand_stays}
use Rattle.std.proofs.Math.ListN.{length-map}
use Rattle.kanal_core.proofs.Bare.{messages-bare}
use Rattle.kanal_journal.proofs.Sends.{entries, entry_at, was_taken, longer, goes, later, ticket_stays, fresh}
use Rattle.kanal_journal.proofs.Slots.{slots, resolve, receipt_of, receipts_resolved, nexts, slot_stays, answered, slots_last, entries_last}
use Rattle.kanal_journal.proofs.Settling.{AreApart, IsSeated}

or_middle : (a b : Bool) → (a || (true || b)) ≡ true
or_middle true b = refl
or_middle false b = refl

or_last : (a b : Bool) → (a || (b || true)) ≡ true
or_last true b = refl
or_last false true = refl
or_last false false = refl

pub without_none : {X : Type 0} (xs : List X) → without_last 0 xs ≡ xs
without_none xs = take_all (length xs - 0) xs (omega arith)

module _ {T : Type 0} where
  -- the tickets that wait
  abbrev pub waits : Line T → List ℕ
  waits l = tickets l.line ++ l.demands

  -- the history has told of the ticket's end
  abbrev pub is_known : PairedHistory T → ℕ → Bool
  is_known h t = is_gone h t || (was_taken h.settled t || is_some (given h.settled t))

  pub record Holds (h : PairedHistory T) (l : Line T) : Type 0 where
    pub same : length h.events ≡ length h.replies
    pub served : List T
    pub entries_is : without_last (sum_by cleared_by h.replies) (entries h) ≡ map bare served ++ l.line
    pub slots_is : slots h ≡ map AtOnce served ++ map Later l.demands
    pub one : (l.line ≡ []) ⊎ (l.demands ≡ [])
    pub shut : (sum_by cleared_by h.replies ≡ 0) ⊎ ((l.senders ≡ 0) × (l.receivers ≡ 0) × (l.line ≡ []) × (l.demands ≡ []))
    pub all_drained : nexts (demands h) ≡ length h.drained
    pub known : (t : ℕ) → is_known h t ≡ true → (t < l.next) × (has t (waits l) ≡ false)
    pub below : (t : ℕ) → has t (waits l) ≡ true → t < l.next
    pub apart : AreApart (waits l)
    pub seats : IsSeated l.capacity l.line

  sent_messages : (ss : List (Settlement T)) (xs : List (T × Option ℕ)) → map (λ s. s.0) xs ≡ messages (map (entry_at ss) xs)
  sent_messages ss [] = refl
  sent_messages ss (x ∷ xs) = ap (λ ys. x.0 ∷ ys) (sent_messages ss xs)

  resolved_length : (ss : List (Settlement T)) (ds : List (Demand T)) (ms : List T) → length (resolve ss ds ms) ≡ length ds
  resolved_length ss [] ms = refl
  resolved_length ss (AtOnce m ∷ ds) ms = ap suc (resolved_length ss ds ms)
  resolved_length ss (Later t ∷ ds) ms = ap suc (resolved_length ss ds ms)
  resolved_length ss (Next ∷ ds) [] = ap suc (resolved_length ss ds [])
  resolved_length ss (Next ∷ ds) (m ∷ ms) = ap suc (resolved_length ss ds ms)

  served_receipts : (ms : List T) → map receipt_of (map AtOnce ms) ≡ map Some ms
  served_receipts [] = refl
  served_receipts (m ∷ ms) = ap (λ ys. Some m ∷ ys) (served_receipts ms)

  waiting_paired : (ds : List ℕ) (ms : List T) → (ms ≡ []) ⊎ (ds ≡ []) → ArePaired (map receipt_of (map Later ds)) ms
  waiting_paired [] ms h = tt
  waiting_paired (d ∷ ds) [] h = (refl, waiting_paired ds [] (inl refl))
  waiting_paired (d ∷ ds) (m ∷ ms) h = elim h [ inl e ↦ absurd (cc) | inr e ↦ absurd (cc) ]

  line_paired : (served : List T) (ds : List ℕ) (ms : List T) → (ms ≡ []) ⊎ (ds ≡ []) → ArePaired (map Some served ++ map receipt_of (map Later ds)) (served ++ ms)
  line_paired [] ds ms h = waiting_paired ds ms h
  line_paired (m ∷ served) ds ms h = (refl, line_paired served ds ms h)

  module _ (h : PairedHistory T) (l : Line T) (now : Holds h l) where
    pub kept_is : kept h ≡ now.served ++ messages l.line
    kept_is =
        let n = sum_by cleared_by h.replies in
        let xs = filter (send_stays h) (along sent h.events h.replies) in
        let cut : without_last n (messages (entries h)) ≡ messages (without_last n (entries h)) = rw length-map (take-map _ (length (entries h) - n) (entries h)) in
        ap (λ ms. without_last n ms) (sent_messages h.settled xs) ∙ (cut ∙ (ap messages now.entries_is ∙ rw (map-append, messages-bare)))

    pub receipts_is : receipts h ≡ map Some now.served ++ map receipt_of (map Later l.demands)
    receipts_is = receipts_resolved h.settled (demands h) h.drained ∙ (ap (λ ds. map receipt_of ds) now.slots_is ∙ rw (map-append, served_receipts))

    pub holds_paired : Paired h
    holds_paired = rw (kept_is, receipts_is) (line_paired now.served l.demands (messages l.line) (elim now.one [ inl e ↦ inl (ap messages e) | inr e ↦ inr e ]))

    -- the line's length less that of the demands is the count of the kept messages less that of the kept demands
    pub demands_count : length (demands h) ≡ length now.served + length l.demands
    demands_count =
        sym (resolved_length h.settled (demands h) h.drained)
        ∙ (ap length now.slots_is ∙ omega (arith, length-append (map {B = Demand T} AtOnce now.served) (map Later l.demands), simp length-map at (length-append (map {B = Demand T} AtOnce now.served) (map Later l.demands))))

    pub counts : length l.line + length (demands h) ≡ length (kept h) + length l.demands
    counts = rw kept_is (omega (arith, demands_count, length-append now.served (messages l.line), length-map l.line (λ e. e.message)))

  served_still : (e : Event T) (r : Reply T) (ss : List (Settlement T)) (ms : List T) (xs : List (LineEntry T)) → map (later ss) (filter (λ x. ticket_stays e r ss x.ticket) (map bare ms ++ xs)) ≡ map bare ms ++ map (later ss) (filter (λ x. ticket_stays e r ss x.ticket) xs)
  served_still e r ss [] xs = refl
  served_still e r ss (m ∷ ms) xs = ap (λ ys. bare m ∷ ys) (served_still e r ss ms xs)

  paid_still : (e : Event T) (r : Reply T) (ss : List (Settlement T)) (ms : List T) (xs : List (Demand T)) → map (answered ss) (filter (slot_stays e r ss) (map AtOnce ms ++ xs)) ≡ map AtOnce ms ++ map (answered ss) (filter (slot_stays e r ss) xs)
  paid_still e r ss [] xs = refl
  paid_still e r ss (m ∷ ms) xs = ap (λ ys. AtOnce m ∷ ys) (paid_still e r ss ms xs)

  pub nexts_filter : (h : PairedHistory T) (ds : List (Demand T)) → nexts (filter (demand_stays h) ds) ≡ nexts ds
  nexts_filter h [] = refl
  nexts_filter h (AtOnce m ∷ ds) = nexts_filter h ds
  nexts_filter h (Next ∷ ds) = ap suc (nexts_filter h ds)
  nexts_filter h (Later t ∷ ds) = elim (cases_Bool (is_gone h t)) [ inl g ↦ rw g (nexts_filter h ds) | inr g ↦ rw g (nexts_filter h ds) ]

  -- what one step moves from the line to the demands
  pub record Moves (h : PairedHistory T) (l : Line T) (e : Event T) (r : Reply T) (ss : List (Settlement T)) (ms : List T) (new : Line T) : Type 0 where
    pub moved : List T
    pub line : map (later ss) (filter (λ x. ticket_stays e r ss x.ticket) l.line) ++ map fresh (sent e r) ≡ map bare moved ++ new.line
    pub demands : map (answered ss) (filter (slot_stays e r ss) (map Later l.demands)) ++ resolve (h.settled ++ ss) (asked e r) ms ≡ map AtOnce moved ++ map Later new.demands
    pub goes_waiting : (t : ℕ) → goes e r ss t ≡ true → has t (waits l) ≡ true
    pub send_new : filter (send_stays (longer h e r ss ms)) (sent e r) ≡ sent e r
    pub entry_new : map (entry_at (h.settled ++ ss)) (sent e r) ≡ map fresh (sent e r)
    pub demand_new : filter (demand_stays (longer h e r ss ms)) (asked e r) ≡ asked e r

  module _ (h : PairedHistory T) (l : Line T) (now : Holds h l) (e : Event T) (r : Reply T) (ss : List (Settlement T)) (ms : List T) (new : Line T) (move : Moves h l e r ss ms new) where
    -- what was told of a ticket is told once
    pub once : (t : ℕ) → is_known h t ≡ true → goes e r ss t ≡ false
    once t k =
        elim (cases_Bool (goes e r ss t)) [
          | inl g ↦ absurd (false≢true (sym (now.known t k).1 ∙ move.goes_waiting t g))
          | inr g ↦ g
        ]

    pub all_entries : sum_by cleared_by h.replies ≡ 0 → entries (longer h e r ss ms) ≡ map bare (now.served ++ move.moved) ++ new.line
    all_entries z =
        let old : entries h ≡ map bare now.served ++ l.line = sym (without_none (entries h)) ∙ (ap (λ k. without_last k (entries h)) (sym z) ∙ now.entries_is) in
        let told : (t : ℕ) → was_taken h.settled t ≡ true → goes e r ss t ≡ false = λ t w. once t (rw w (or_middle (is_gone h t) (is_some (given h.settled t)))) in
        rw (entries_last h e r ss ms now.same told move.send_new move.entry_new, old, served_still e r ss now.served l.line, append_assoc, move.line, map-append) (sym (append_assoc (map bare now.served) (map bare move.moved) new.line))

    pub next_entries : cleared_by r ≡ 0 → sum_by cleared_by h.replies ≡ 0 → without_last (sum_by cleared_by (longer h e r ss ms).replies) (entries (longer h e r ss ms)) ≡ map bare (now.served ++ move.moved) ++ new.line
    next_entries quiet z =
        let n : sum_by cleared_by (h.replies ++ r ∷ []) ≡ 0 = omega (arith, sum_by-append cleared_by h.replies (r ∷ [])) in
        rw (n, without_none) (all_entries z)

    pub next_slots : slots (longer h e r ss ms) ≡ map AtOnce (now.served ++ move.moved) ++ map Later new.demands
    next_slots =
        let told : (t : ℕ) (m : T) → given h.settled t ≡ Some m → goes e r ss t ≡ false = λ t m g. once t (rw g (or_last (is_gone h t) (was_taken h.settled t))) in
        let count : nexts (filter (demand_stays (longer h e r ss ms)) (along asked h.events h.replies)) ≡ length h.drained = nexts_filter (longer h e r ss ms) (along asked h.events h.replies) ∙ (sym (nexts_filter h (along asked h.events h.replies)) ∙ now.all_drained) in
        rw (slots_last h e r ss ms now.same told now.all_drained move.demand_new count, now.slots_is, paid_still e r ss now.served (map Later l.demands), append_assoc, move.demands, map-append) (sym (append_assoc (map AtOnce now.served) (map AtOnce move.moved) (map Later new.demands)))
