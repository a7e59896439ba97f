-- The tickets that wait rise and are below the next one: each step keeps it, and what it settles rises, too.
use Rattle.kanal_journal.proofs.Common.{◌≡◌, ℕ, ◌+◌, ◌≤◌, ◌⊎◌, zero, suc, Bool, true, false, cond, ◌==◌, List, [], ◌∷◌, ◌++◌, length, map, filter, take, drop, Option, Some, None, refl, sym, ap, ◌∙◌, subst, inl, inr, arith, append-nil, append_assoc, cases_Bool, eq-eqb, eqb-true, lt-ltb, le-ltb, filter-append, map-append, Outcome, Reason, Closed as ByClose, SendClosed as NoSendersLeft, LineEntry, Line, IsWithin, bare, waiting, tickets, under, over, is_below, is_empty, serve, leave, end_all, wait_send, wait_recv, Handles, Event, Reply, Got, Done, Settlement, StepSpec, only, moving, refused, StepCase, Refuses, Replies, Enters, TakesFront, SendWaits, RecvWaits, WithdrawsDemand, WithdrawsEntry, Drains, Recounts, EndsAll, Seals, Closes, step_case, Account, TellsWith, Leads, opening_account, numbered, AreRising, WaitByPlace, without_ticket, settled_at, told_history}
use Rattle.kanal_journal.proofs.Reading.{told_by}
use Rattle.kanal_journal.proofs.Settling.{AllBare, AllWait, IsSeated, under-over}
use Rattle.kanal_journal.proofs.Seats.{tickets_seated}
use Rattle.kanal_journal.proofs.Holding.{Holds, waits}
use Rattle.kanal_journal.proofs.Cuts.{AllBefore}
use Rattle.kanal_journal.proofs.Tickets.{but, tickets-append, tickets-without}
use Rattle.kanal_journal.proofs.Counting.{tickets_of, taken-tickets, ended-tickets}
use Rattle.kanal_journal.proofs.Along.{holds-opening, settled-earlier}
use Rattle.kanal_journal.proofs.EachStep.{told-holds}

rise-from : (low high : ℕ) (ts : List ℕ) (n : ℕ) → low ≤ high → AreRising high ts n → AreRising low ts n
rise-from low high [] n h r = omega (arith, h, r)
rise-from low high (t ∷ ts) n h r = (let a = r.0 in omega (arith, h, a), r.1)

rise-more : (low : ℕ) (ts : List ℕ) (n k : ℕ) → n ≤ k → AreRising low ts n → AreRising low ts k
rise-more low [] n k h r = omega (arith, h, r)
rise-more low (t ∷ ts) n k h r = (r.0, rise-more (t + 1) ts n k h r.1)

rise-low : (low : ℕ) (ts : List ℕ) (n : ℕ) → AreRising low ts n → low ≤ n
rise-low low [] n r = r
rise-low low (t ∷ ts) n r = let a = r.0 in let b = rise-low (t + 1) ts n r.1 in omega (arith, a, b)

pub rise-first : (low : ℕ) (xs ys : List ℕ) (n : ℕ) → AreRising low (xs ++ ys) n → AreRising low xs n
rise-first low [] ys n r = rise-low low ys n r
rise-first low (x ∷ xs) ys n r = (r.0, rise-first (x + 1) xs ys n r.1)

pub rise-last : (low : ℕ) (xs ys : List ℕ) (n : ℕ) → AreRising low (xs ++ ys) n → AreRising low ys n
rise-last low [] ys n r = r
rise-last low (x ∷ xs) ys n r = rise-from low (x + 1) ys n (let a = r.0 in omega (arith, a)) (rise-last (x + 1) xs ys n r.1)

rise-one : (low : ℕ) (ts : List ℕ) (n : ℕ) → AreRising low ts n → AreRising low (ts ++ n ∷ []) (n + 1)
rise-one low [] n r = (r, omega arith)
rise-one low (t ∷ ts) n r = (r.0, rise-one (t + 1) ts n r.1)

rise-but : (t low : ℕ) (xs ys : List ℕ) (n : ℕ) → AreRising low (xs ++ ys) n → AreRising low (but t xs ++ ys) n
rise-but t low [] ys n r = r
rise-but t low (x ∷ xs) ys n r =
    let rest = rise-but t (x + 1) xs ys n r.1 in
    elim (cases_Bool (x == t)) [
      | inl e ↦ rw e (rise-from low (x + 1) (but t xs ++ ys) n (let a = r.0 in omega (arith, a)) rest)
      | inr e ↦ rw e (r.0, rest)
    ]

rise-but-last : (t low : ℕ) (xs ys : List ℕ) (n : ℕ) → AreRising low (xs ++ ys) n → AreRising low (xs ++ but t ys) n
rise-but-last t low [] ys n r =
    let P : List ℕ → Type 0 = λ ts. AreRising low ts n in
    subst P (append-nil (but t ys)) (rise-but t low ys [] n (subst P (sym (append-nil ys)) r))
rise-but-last t low (x ∷ xs) ys n r = (r.0, rise-but-last t (x + 1) xs ys n r.1)

empty-is : (b : Bool) (ds : List ℕ) → cond (is_empty ds) b true ≡ false → ds ≡ []
empty-is b [] h = refl
empty-is b (d ∷ ds) h = absurd (cc)

module _ {T : Type 0} where
  -- what a step keeps
  pub record KeepsOrder (l : Line T) (t : StepSpec T) : Type 0 where
    pub waits : AreRising 0 (waits t.line) t.line.next
    pub settled : AreRising 0 (tickets_of t.settled) l.next
    pub grows : l.next ≤ t.line.next

  -- the tickets of the entries are those below the capacity and then the others
  parts : (c : Option ℕ) (xs : List (LineEntry T)) → tickets xs ≡ tickets (under c xs) ++ tickets (over c xs)
  parts c xs = ap tickets (sym (under-over c xs)) ∙ tickets-append (under c xs) (over c xs)

  -- a message that enters leaves the tickets as they are, or the first demand is settled
  serve-order : (l : Line T) (m : T) (line : List (LineEntry T)) (ds : List ℕ) → (line ≡ []) ⊎ (ds ≡ []) → AreRising 0 (tickets line ++ ds) l.next → (r : Reply T) → KeepsOrder l (moving (serve l (line ++ bare m ∷ []) ds) r)
  serve-order l m line [] one now r =
      let same : tickets (line ++ bare m ∷ []) ≡ tickets line = tickets-append line (bare m ∷ []) ∙ append-nil (tickets line) in
      let P : List ℕ → Type 0 = λ ts. AreRising 0 (ts ++ []) l.next in
      record { waits = subst P (sym same) now; settled = omega arith; grows = omega arith }
  serve-order l m [] (d ∷ []) one now r = record { waits = omega arith; settled = (omega arith, now.1); grows = omega arith }
  serve-order l m [] (d ∷ d' ∷ ds) one now r =
      record {
        waits = rise-from 0 (d + 1) (d' ∷ ds) l.next (omega arith) now.1;
        settled = (omega arith, rise-low (d + 1) (d' ∷ ds) l.next now.1);
        grows = omega arith;
      }
  serve-order l m (x ∷ xs) (d ∷ ds) one now r = absurd (elim one [ inl e ↦ cc | inr e ↦ cc ])

  module _ (l : Line T) (now : AreRising 0 (waits l) l.next) (one : (l.line ≡ []) ⊎ (l.demands ≡ [])) where
    -- a step with no settlement that leaves what waits as it was
    quiet : (told : StepSpec T) → told.settled ≡ [] → waits told.line ≡ waits l → told.line.next ≡ l.next → KeepsOrder l told
    quiet told s w n =
        let P : List ℕ → Type 0 = λ ts. AreRising 0 ts l.next in
        record {
          waits = subst (λ k. AreRising 0 (waits told.line) k) (sym n) (subst P (sym w) now);
          settled = subst P (sym (ap tickets_of s)) (omega arith);
          grows = omega (arith, n);
        }

    front : (x : LineEntry T) (xs : List (LineEntry T)) (r : Reply T) → l.line ≡ x ∷ xs → KeepsOrder l (moving (leave l (x ∷ []) xs) r)
    front x xs r is =
        let c = l.capacity in
        let gone : List ℕ = tickets ((x ∷ []) ++ under c xs) in
        let rest : List ℕ = tickets (over c xs) in
        let split : tickets l.line ≡ gone ++ rest = ap tickets is ∙ (ap (λ ys. tickets (x ∷ ys)) (sym (under-over c xs)) ∙ tickets-append ((x ∷ []) ++ under c xs) (over c xs)) in
        let P : List ℕ → Type 0 = λ ts. AreRising 0 ts l.next in
        let all : P ((gone ++ rest) ++ l.demands) = subst P (ap (λ ts. ts ++ l.demands) split) now in
        record {
          waits = subst P (ap (λ ts. ts ++ l.demands) (sym (tickets_seated c xs))) (rise-last 0 gone (rest ++ l.demands) l.next (subst P (append_assoc gone rest l.demands) all));
          settled = subst P (sym (taken-tickets T gone)) (rise-first 0 gone rest l.next (rise-first 0 (gone ++ rest) l.demands l.next all));
          grows = omega arith;
        }

    sends : (m : T) → l.demands ≡ [] → AreRising 0 (waits (wait_send l m)) (l.next + 1)
    sends m none =
        let P : List ℕ → Type 0 = λ ts. AreRising 0 ts l.next in
        let Q : List ℕ → Type 0 = λ ts. AreRising 0 ts (l.next + 1) in
        let bare_line : P (tickets l.line) = subst P (ap (λ ds. tickets l.line ++ ds) none ∙ append-nil (tickets l.line)) now in
        let longer : List (LineEntry T) = l.line ++ waiting m l.next ∷ [] in
        let is : tickets longer ++ l.demands ≡ tickets l.line ++ l.next ∷ [] = ap (λ ds. tickets longer ++ ds) none ∙ (append-nil (tickets longer) ∙ tickets-append l.line (waiting m l.next ∷ [])) in
        subst Q (sym is) (rise-one 0 (tickets l.line) l.next bare_line)

    recvs : AreRising 0 (waits (wait_recv l)) (l.next + 1)
    recvs =
        let Q : List ℕ → Type 0 = λ ts. AreRising 0 ts (l.next + 1) in
        subst Q (append_assoc (tickets l.line) l.demands (l.next ∷ [])) (rise-one 0 (waits l) l.next now)

    ends-settled : (reason : Reason) → AreRising 0 (tickets_of (end_all l reason).settled) l.next
    ends-settled reason = let P : List ℕ → Type 0 = λ ts. AreRising 0 ts l.next in subst P (sym (ended-tickets reason l)) now

    ends : (reason : Reason) (senders receivers : ℕ) → KeepsOrder l (moving (end_all (record l { senders = senders; receivers = receivers }) reason) Done)
    ends reason senders receivers =
        let P : List ℕ → Type 0 = λ ts. AreRising 0 ts l.next in
        let below : List ℕ = tickets (under l.capacity l.line) in
        let beyond : List ℕ = tickets (over l.capacity l.line) in
        let all : P ((below ++ beyond) ++ l.demands) = subst P (ap (λ ts. ts ++ l.demands) (parts l.capacity l.line)) now in
        record {
          waits = subst P (sym (append-nil below)) (rise-first 0 below beyond l.next (rise-first 0 (below ++ beyond) l.demands l.next all));
          settled = ends-settled reason;
          grows = omega arith;
        }

    case-order : {e : Event T} {told : StepSpec T} → StepCase l e told → KeepsOrder l told
    case-order (Refuses e reason clear) = quiet (refused l reason e) refl refl refl
    case-order (Replies e r c) = quiet (only l r) refl refl refl
    case-order (Enters e m r s some_receiver some_sender place) = serve-order l m l.line l.demands one now r
    case-order (TakesFront e x xs r some_receiver is) = front x xs (Got x.message) is
    case-order (SendWaits m some_receiver some_sender full) =
        record { waits = sends m (empty-is (is_below (length l.line) l.capacity) l.demands full); settled = omega arith; grows = omega arith }
    case-order (RecvWaits some_receiver some_sender empty) = record { waits = recvs; settled = omega arith; grows = omega arith }
    case-order (WithdrawsDemand t there) = record { waits = rise-but-last t 0 (tickets l.line) l.demands l.next now; settled = omega arith; grows = omega arith }
    case-order (WithdrawsEntry t m ms is) =
        let P : List ℕ → Type 0 = λ ts. AreRising 0 (ts ++ l.demands) l.next in
        record { waits = subst P (sym (tickets-without t l.line)) (rise-but t 0 (tickets l.line) l.demands l.next now); settled = omega arith; grows = omega arith }
    case-order (Drains some_receiver) =
        let P : List ℕ → Type 0 = λ ts. AreRising 0 ts l.next in
        record { waits = rise-last 0 (tickets l.line) l.demands l.next now; settled = subst P (sym (taken-tickets T (tickets l.line))) (rise-first 0 (tickets l.line) l.demands l.next now); grows = omega arith }
    case-order (Recounts e senders receivers c) = quiet (only (record l { senders = senders; receivers = receivers }) Done) refl refl refl
    case-order (EndsAll e senders receivers reason c) = ends reason senders receivers
    case-order (Seals some_sender) =
        let P : List ℕ → Type 0 = λ ts. AreRising 0 ts l.next in
        record {
          waits = subst P (sym (append-nil (tickets l.line))) (rise-first 0 (tickets l.line) l.demands l.next now);
          settled = subst P (sym (ended-tickets NoSendersLeft (record l { line = [] }))) (rise-last 0 (tickets l.line) l.demands l.next now);
          grows = omega arith;
        }
    case-order (Closes left) = record { waits = omega arith; settled = ends-settled ByClose; grows = omega arith }

    pub told-order : (handles : Handles) (e : Event T) (told : StepSpec T) → TellsWith handles l e told → KeepsOrder l told
    told-order handles e told is = told_by (KeepsOrder l) handles l e told is (case-order (step_case l e)) (λ reason. quiet (refused l reason e) refl refl refl)

  at-append : (n : ℕ) (xs ys : List (Settlement T)) → settled_at n (xs ++ ys) ≡ settled_at n xs ++ settled_at n ys
  at-append n xs ys = ap (map (λ (s : Settlement T). s.ticket)) (filter-append (λ (s : Settlement T). s.step == n) xs ys) ∙ map-append (λ (s : Settlement T). s.ticket) (filter (λ s. s.step == n) xs) (filter (λ s. s.step == n) ys)

  at-before : (n : ℕ) (xs : List (Settlement T)) → AllBefore n xs → settled_at n xs ≡ []
  at-before n [] h = refl
  at-before n (x ∷ xs) h =
      elim (cases_Bool (x.step == n)) [
        | inl e ↦ absurd (let same : x.step ≡ n = eqb-true x.step n e in let less = h.0 in omega (arith, same, less))
        | inr e ↦ rw e (at-before n xs h.1)
      ]

  at-same : (n : ℕ) (settled : List (ℕ × Outcome T)) → settled_at n (numbered n settled) ≡ tickets_of settled
  at-same n [] = refl
  at-same n (s ∷ ss) = rw (eq-eqb n n refl) (ap (λ ts. s.0 ∷ ts) (at-same n ss))

  at-other : (k n : ℕ) (settled : List (ℕ × Outcome T)) → (k == n) ≡ false → settled_at n (numbered k settled) ≡ []
  at-other k n [] e = refl
  at-other k n (s ∷ ss) e = rw e (at-other k n ss e)

  -- what waits and what was settled is in order
  pub record InOrder (a : Account T) : Type 0 where
    pub waits : AreRising 0 (waits a.line) a.line.next
    pub before : AllBefore (length a.replies) a.settled
    pub settled : (n : ℕ) → AreRising 0 (settled_at n a.settled) a.line.next

  settled-order : (a : Account T) (told : StepSpec T) → InOrder a → KeepsOrder a.line told → (n : ℕ) → AreRising 0 (settled_at n (a.settled ++ numbered (length a.replies) told.settled)) told.line.next
  settled-order a told now k n =
      let m = length a.replies in
      let P : List ℕ → Type 0 = λ ts. AreRising 0 ts told.line.next in
      let old : P (settled_at n a.settled) = rise-more 0 (settled_at n a.settled) a.line.next told.line.next k.grows (now.settled n) in
      let new : P (tickets_of told.settled) = rise-more 0 (tickets_of told.settled) a.line.next told.line.next k.grows k.settled in
      let is = at-append n a.settled (numbered m told.settled) in
      elim (cases_Bool (m == n)) [
        | inl e ↦
            let same : m ≡ n = eqb-true m n e in
            let none : settled_at n a.settled ≡ [] = ap (λ j. settled_at j a.settled) (sym same) ∙ at-before m a.settled now.before in
            let all : settled_at n (numbered m told.settled) ≡ tickets_of told.settled = ap (λ j. settled_at j (numbered m told.settled)) (sym same) ∙ at-same m told.settled in
            subst P (sym (is ∙ (ap (λ ts. ts ++ settled_at n (numbered m told.settled)) none ∙ all))) new
        | inr e ↦ subst P (sym (is ∙ (ap (λ ts. settled_at n a.settled ++ ts) (at-other m n told.settled e) ∙ append-nil (settled_at n a.settled)))) old
      ]

  -- and stays so along every list of events
  order-along : (past : List (Event T)) (a b : Account T) (events : List (Event T)) → Holds (told_history past a) a.line → InOrder a → Leads a events b → InOrder b
  order-along past a b [] now o l = subst InOrder (sym l) o
  order-along past a b (e ∷ es) now o l =
      let told = l.1.0 in
      let k : KeepsOrder a.line told = told-order a.line o.waits now.one a.handles e told l.1.1 in
      let P : Account T → Type 0 = λ x. AreRising 0 (waits x.line) x.line.next in
      let Q : Account T → Type 0 = λ x. Holds (told_history (past ++ e ∷ []) x) x.line in
      let R : Account T → Type 0 = λ x. (n : ℕ) → AreRising 0 (settled_at n x.settled) x.line.next in
      let holds : Q l.0 = subst Q (sym l.1.2) (told-holds (told_history past a) a.line now (length a.replies) a.handles e told l.1.1) in
      let next : InOrder l.0 = record {
        waits = subst P (sym l.1.2) k.waits;
        before = settled-earlier a l.0 (e ∷ []) (l.0, l.1, refl) o.before;
        settled = subst R (sym l.1.2) (settled-order a told o k);
      } in
      order-along (past ++ e ∷ []) l.0 b es holds next l.2

  pub ordered : (capacity : Option ℕ) (events : List (Event T)) (a : Account T) → Leads (opening_account capacity) events a → InOrder a
  ordered capacity events a l = order-along [] (opening_account capacity) a events (holds-opening capacity) (record { waits = omega arith; before = tt; settled = λ n. omega arith }) l

  -- behind the capacity each entry waits
  all-wait : (c place : ℕ) (xs : List (LineEntry T)) → c ≤ place → AllWait xs → WaitByPlace (Some c) place xs
  all-wait c place [] h w = tt
  all-wait c place (x ∷ xs) h w = (rw (w.1, le-ltb place c h) refl, all-wait c (place + 1) xs (omega (arith, h)) w.2)

  seats-places : (c place k : ℕ) (xs : List (LineEntry T)) → c ≡ place + k → AllBare (take k xs) → AllWait (drop k xs) → WaitByPlace (Some c) place xs
  seats-places c place zero xs h b w = all-wait c place xs (omega (arith, h)) w
  seats-places c place (suc k) [] h b w = tt
  seats-places c place (suc k) (x ∷ xs) h b w = (rw (b.0, lt-ltb place c (omega (arith, h))) refl, seats-places c (place + 1) k xs (omega (arith, h)) b.1 w)

  all-bare : (place : ℕ) (xs : List (LineEntry T)) → AllBare xs → WaitByPlace None place xs
  all-bare place [] b = tt
  all-bare place (x ∷ xs) b = (rw b.0 refl, all-bare (place + 1) xs b.1)

  -- the entries wait by their places
  pub waits-by-place : (c : Option ℕ) (xs : List (LineEntry T)) → IsSeated c xs → WaitByPlace c 0 xs
  waits-by-place None xs s = all-bare 0 xs s.0
  waits-by-place (Some c) xs s = seats-places c 0 c xs (omega arith) s.0 s.1

  none-bare : (xs : List (LineEntry T)) → AllWait xs → without_ticket xs ≡ []
  none-bare [] w = refl
  none-bare (x ∷ xs) w = rw w.1 (none-bare xs w.2)

  few-bare : (c : ℕ) (xs : List (LineEntry T)) → AllBare (take c xs) → AllWait (drop c xs) → length (without_ticket xs) ≤ c
  few-bare zero xs b w = omega (arith, ap length (none-bare xs w))
  few-bare (suc c) [] b w = omega arith
  few-bare (suc c) (x ∷ xs) b w = rw b.0 (omega (arith, few-bare c xs b.1 w))

  -- those without a ticket are at most the capacity
  pub bare-within : (c : Option ℕ) (xs : List (LineEntry T)) → IsSeated c xs → IsWithin (length (without_ticket xs)) c
  bare-within None xs s = tt
  bare-within (Some c) xs s = few-bare c xs s.0 s.1
