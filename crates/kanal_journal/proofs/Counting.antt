-- What a step does to the tickets that wait, and to the length of the line.
use Rattle.kanal_journal.proofs.Common.{◌≡◌, ℕ, ◌+◌, ◌≤◌, zero, suc, Bool, true, not, ◌==◌, List, [], ◌∷◌, ◌++◌, length, map, filter, Option, Some, None, refl, sym, ap, ◌∙◌, inl, inr, arith, add-one, length-append, filter_map, cons_option, option_map, cases_Bool, false≢true, eqb-true, length-map, map-append, Reason, Closed as ByClose, SendClosed as NoSendersLeft, Outcome, Taken, Ended, LineEntry, Line, bare, waiting, tickets, has, under, over, holds_ticket, serve, enter, leave, seated, ended, ended_entry, end_all, wait_send, wait_recv, without_demand, seal, Handles, Event, Refusal, Reply, Got, Done, StepSpec, only, moving, message_of, refused, StepCase, Refuses, Replies, Enters, TakesFront, SendWaits, RecvWaits, WithdrawsDemand, WithdrawsEntry, Drains, Recounts, EndsAll, Seals, Closes, enter-rest, step_case, TellsWith, withdrawn_ticket, weigh, waiting_count}
use Rattle.kanal_journal.proofs.Reading.{told_by, refused-plain, reply-plain, count-plain, last-plain, send-read, recv-read}
use Rattle.kanal_journal.proofs.Settling.{under-over}
use Rattle.kanal_journal.proofs.Seats.{tickets_seated}
use Rattle.kanal_journal.proofs.Holding.{waits}
use Rattle.kanal_journal.proofs.Tickets.{but, found-some, tickets-append, tickets-without}
use Rattle.kanal_journal.proofs.Weighing.{weigh-append}

-- the weights of the numbers below n, added up
abbrev pub upto : (ℕ → ℕ) → ℕ → ℕ
upto g zero = 0
upto g (suc n) = g n + upto g n

module _ (g : ℕ → ℕ) where
  pub upto-next : (n : ℕ) → upto g (n + 1) ≡ g n + upto g n
  upto-next n = ap (upto g) (add-one n)

  fewer-numbers : (p : ℕ → Bool) (xs : List ℕ) → weigh g (filter p xs) ≤ weigh g xs
  fewer-numbers p [] = omega arith
  fewer-numbers p (x ∷ xs) = elim (cases_Bool (p x)) [ inl e ↦ rw e (omega (arith, fewer-numbers p xs)) | inr e ↦ rw e (omega (arith, fewer-numbers p xs)) ]

  -- a number that is there can be taken away
  without-one : (t : ℕ) (xs : List ℕ) → has t xs ≡ true → g t + weigh g (but t xs) ≤ weigh g xs
  without-one t [] h = absurd (false≢true h)
  without-one t (x ∷ xs) h =
      elim (cases_Bool (x == t)) [
        | inl e ↦ let same : x ≡ t = eqb-true x t e in rw e (omega (arith, ap g same, fewer-numbers (λ u. not (u == t)) xs))
        | inr e ↦ rw e (omega (arith, without-one t xs (rw e at h)))
      ]

-- the tickets of the settlements
abbrev pub tickets_of : {T : Type 0} → List (ℕ × Outcome T) → List ℕ
tickets_of settled = map (λ s. s.0) settled

-- what is taken has those tickets
pub taken-tickets : (T : Type 0) (ts : List ℕ) → tickets_of {T = T} (map (λ t. (t, Taken)) ts) ≡ ts
taken-tickets T [] = refl
taken-tickets T (t ∷ ts) = ap (λ us. t ∷ us) (taken-tickets T ts)

-- and so has what ends
ended-receives : (T : Type 0) (reason : Reason) (ts : List ℕ) → tickets_of {T = T} (map (λ t. (t, Ended reason None)) ts) ≡ ts
ended-receives T reason [] = refl
ended-receives T reason (t ∷ ts) = ap (λ us. t ∷ us) (ended-receives T reason ts)

-- each weighs one: a weight is a count
ones : (xs : List ℕ) → weigh (λ x. 1) xs ≡ length xs
ones [] = refl
ones (x ∷ xs) = omega (arith, ones xs)

upto-ones : (n : ℕ) → upto (λ x. 1) n ≡ n
upto-ones zero = refl
upto-ones (suc n) = omega (arith, upto-ones n)

module _ {T : Type 0} where
  fewer : (p : LineEntry T → Bool) (xs : List (LineEntry T)) → length (filter p xs) ≤ length xs
  fewer p [] = omega arith
  fewer p (x ∷ xs) = elim (cases_Bool (p x)) [ inl e ↦ rw e (omega (arith, fewer p xs)) | inr e ↦ rw e (omega (arith, fewer p xs)) ]

  -- what ends has the tickets of the entries that wait
  ended-entries : (reason : Reason) (xs : List (LineEntry T)) → tickets_of (filter_map (ended_entry reason) xs) ≡ tickets xs
  ended-entries reason [] = refl
  ended-entries reason (x ∷ xs) = one x.ticket x.message (filter_map (ended_entry reason) xs) (tickets xs) (ended-entries reason xs)
    where
      one : (o : Option ℕ) (m : T) (rest : List (ℕ × Outcome T)) (ts : List ℕ) → tickets_of rest ≡ ts → tickets_of (cons_option (option_map (λ t. (t, Ended reason (Some m))) o) rest) ≡ cons_option o ts
      one None m rest ts h = h
      one (Some t) m rest ts h = ap (λ us. t ∷ us) h

  -- all that waits is what ends
  pub ended-tickets : (reason : Reason) (l : Line T) → tickets_of (ended reason l) ≡ waits l
  ended-tickets reason l = map-append (λ (s : ℕ × Outcome T). s.0) (filter_map (ended_entry reason) l.line) (map (λ t. (t, Ended reason None)) l.demands) ∙ rw (ended-entries reason l.line, ended-receives T reason l.demands) refl

  serve-long : (old : Line T) (line : List (LineEntry T)) (ds : List ℕ) → length (serve old line ds).line.line ≤ length line
  serve-long old line [] = omega arith
  serve-long old [] (d ∷ ds) = omega arith
  serve-long old (e ∷ es) (d ∷ ds) = omega (arith, serve-long old es ds)

  seated-long : (c : Option ℕ) (xs : List (LineEntry T)) → length (seated c xs) ≡ length xs
  seated-long c xs = omega (arith, length-append (map (λ (e : LineEntry T). bare e.message) (under c xs)) (over c xs), length-map (under c xs) (λ (e : LineEntry T). bare e.message), length-append (under c xs) (over c xs), ap length (under-over c xs))

  under-long : (c : Option ℕ) (xs : List (LineEntry T)) → length (under c xs) ≤ length xs
  under-long c xs = omega (arith, length-append (under c xs) (over c xs), ap length (under-over c xs))

  module _ (g : ℕ → ℕ) where
    ticket-cons : (o : Option ℕ) (m : T) (xs : List (LineEntry T)) → weigh g (tickets xs) ≤ weigh g (tickets (record { message = m; ticket = o } ∷ xs))
    ticket-cons None m xs = omega arith
    ticket-cons (Some t) m xs = omega arith

    serve-weighs : (old : Line T) (line : List (LineEntry T)) (ds : List ℕ) → weigh g (tickets_of (serve old line ds).settled) + (weigh g (tickets (serve old line ds).line.line) + weigh g (serve old line ds).line.demands) ≤ weigh g (tickets line) + weigh g ds
    serve-weighs old line [] = omega arith
    serve-weighs old [] (d ∷ ds) = omega arith
    serve-weighs old (e ∷ es) (d ∷ ds) = omega (arith, serve-weighs old es ds, ticket-cons e.ticket e.message es)

    waits-weigh : (l : Line T) → weigh g (waits l) ≡ weigh g (tickets l.line) + weigh g l.demands
    waits-weigh l = weigh-append g (tickets l.line) l.demands

    -- A step's settlements, its withdrawal and those that still wait weigh at most what waited and the ticket that it gave.
    -- The line grows by one at most, and what is drained or cleared leaves it.
    pub record Counts (l : Line T) (e : Event T) (t : StepSpec T) : Type 0 where
      pub settled : weigh g (tickets_of t.settled) + weigh g (withdrawn_ticket e t.reply) + weigh g (waits t.line) + upto g l.next ≤ weigh g (waits l) + upto g t.line.next
      pub left : length t.drained + length t.cleared + length t.line.line ≤ length l.line + 1

    module _ (l : Line T) where
      -- a step with no settlement that leaves what waits as it was
      quiet : (e : Event T) (told : StepSpec T) → withdrawn_ticket e told.reply ≡ [] → told.settled ≡ [] → waits told.line ≡ waits l → told.line.next ≡ l.next → length told.drained + length told.cleared + length told.line.line ≤ length l.line + 1 → Counts l e told
      quiet e told w s k n left =
          record { settled = omega (arith, ap (weigh g) w, ap (λ ss. weigh g (tickets_of ss)) s, ap (weigh g) k, ap (upto g) n); left = left }

      entered : (e : Event T) (m : T) (r : Reply T) → withdrawn_ticket e r ≡ [] → Counts l e (moving (enter l m) r)
      entered e m r w =
          let new = (enter l m).line in
          record {
            settled =
                omega (
                  arith,
                  ap (weigh g) w,
                  serve-weighs l (l.line ++ bare m ∷ []) l.demands,
                  ap (λ (x : Line T). upto g x.next) (enter-rest l m),
                  waits-weigh new,
                  waits-weigh l,
                  ap (weigh g) (tickets-append l.line (bare m ∷ [])),
                  weigh-append g (tickets l.line) (tickets {T = T} (bare m ∷ [])),
                );
            left = omega (arith, serve-long l (l.line ++ bare m ∷ []) l.demands, length-append l.line (bare m ∷ []));
          }

      front : (e : Event T) (x : LineEntry T) (xs : List (LineEntry T)) (r : Reply T) → withdrawn_ticket e r ≡ [] → l.line ≡ x ∷ xs → Counts l e (moving (leave l (x ∷ []) xs) r)
      front e x xs r w is =
          let c = l.capacity in
          let gone = (x ∷ []) ++ under c xs in
          let parts : weigh g (tickets l.line) ≡ weigh g (tickets gone) + weigh g (tickets (over c xs)) =
          ap (λ ys. weigh g (tickets ys)) is ∙ (ap (λ ys. weigh g (tickets (x ∷ ys))) (sym (under-over c xs)) ∙ (ap (weigh g) (tickets-append gone (over c xs)) ∙ weigh-append g (tickets gone) (tickets (over c xs)))) in
          record {
            settled =
                omega (
                  arith,
                  parts,
                  ap (weigh g) w,
                  waits-weigh l,
                  waits-weigh (record l { line = seated c xs }),
                  ap (weigh g) (taken-tickets T (tickets gone)),
                  ap (weigh g) (tickets_seated c xs),
                );
            left = omega (arith, seated-long c xs, ap length is);
          }

      -- nobody waits below the capacity, so that nobody waits after an end
      ends : (e : Event T) (reason : Reason) (senders receivers : ℕ) → withdrawn_ticket e Done ≡ [] → tickets (under l.capacity l.line) ≡ [] → Counts l e (moving (end_all (record l { senders = senders; receivers = receivers }) reason) Done)
      ends e reason senders receivers w below =
          record {
            settled =
                omega (
                  arith,
                  ap (weigh g) w,
                  ap (weigh g) (ended-tickets reason l),
                  weigh-append g (tickets (under l.capacity l.line)) [],
                  ap (weigh g) below,
                );
            left = omega (arith, under-long l.capacity l.line);
          }

      refused-counts : (e : Event T) (reason : Refusal) → Counts l e (refused l reason e)
      refused-counts e reason = quiet e (refused l reason e) (refused-plain e reason (message_of e)).2 refl refl refl (omega arith)

      case-counts : tickets (under l.capacity l.line) ≡ [] → {e : Event T} {told : StepSpec T} → StepCase l e told → Counts l e told
      case-counts below (Refuses e reason clear) = refused-counts e reason
      case-counts below (Replies e r c) = quiet e (only l r) (reply-plain c).2 refl refl refl (omega arith)
      case-counts below (Enters e m r s some_receiver some_sender place) = entered e m r (send-read s).2
      case-counts below (TakesFront e x xs r some_receiver is) = front e x xs (Got x.message) (recv-read r x.message).2 is
      case-counts below (SendWaits m some_receiver some_sender full) =
          record { settled = omega (arith, waits-weigh l, waits-weigh (wait_send l m), ap (weigh g) (tickets-append l.line (waiting m l.next ∷ [])), weigh-append g (tickets l.line) (l.next ∷ []), upto-next g l.next); left = omega (arith, length-append l.line (waiting m l.next ∷ [])) }
      case-counts below (RecvWaits some_receiver some_sender empty) =
          record { settled = omega (arith, waits-weigh l, waits-weigh (wait_recv l), weigh-append g l.demands (l.next ∷ []), upto-next g l.next); left = omega arith }
      case-counts below (WithdrawsDemand t there) =
          record { settled = omega (arith, waits-weigh l, waits-weigh (without_demand l t), without-one g t l.demands there); left = omega arith }
      case-counts below (WithdrawsEntry t m ms is) =
          record { settled = omega (arith, waits-weigh l, weigh-append g (tickets (filter (λ e. not (holds_ticket t e)) l.line)) l.demands, ap (weigh g) (tickets-without t l.line), without-one g t (tickets l.line) (found-some t l.line m ms is)); left = omega (arith, fewer (λ e. not (holds_ticket t e)) l.line) }
      case-counts below (Drains some_receiver) =
          record { settled = omega (arith, waits-weigh l, ap (weigh g) (taken-tickets T (tickets l.line))); left = omega (arith, length-map l.line (λ e. e.message)) }
      case-counts below (Recounts e senders receivers c) = quiet e (only (record l { senders = senders; receivers = receivers }) Done) (count-plain c).2 refl refl refl (omega arith)
      case-counts below (EndsAll e senders receivers reason c) = ends e reason senders receivers (last-plain c).2 below
      case-counts below (Seals some_sender) =
          record { settled = omega (arith, waits-weigh l, waits-weigh (seal l).line, ap (weigh g) (ended-tickets NoSendersLeft (record l { line = [] }))); left = omega arith }
      case-counts below (Closes left) =
          record { settled = omega (arith, ap (weigh g) (ended-tickets ByClose l)); left = omega (arith, length-map (under l.capacity l.line) (λ e. e.message), under-long l.capacity l.line) }

      pub told-counts : tickets (under l.capacity l.line) ≡ [] → (handles : Handles) (e : Event T) (told : StepSpec T) → TellsWith handles l e told → Counts l e told
      told-counts below handles e told is = told_by (Counts l e) handles l e told is (case-counts below (step_case l e)) (refused-counts e)

  -- as many are settled and still wait as waited and were let wait, at most
  pub told-count : (l : Line T) → tickets (under l.capacity l.line) ≡ [] → (handles : Handles) (e : Event T) (told : StepSpec T) → TellsWith handles l e told → length told.settled + waiting_count told.line + l.next ≤ waiting_count l + told.line.next
  told-count l below handles e told is =
      let k = told-counts (λ x. 1) l below handles e told is in
      omega (
        arith,
        k.settled,
        ones (tickets_of told.settled),
        length-map told.settled (λ s. s.0),
        ones (waits told.line),
        length-append (tickets told.line.line) told.line.demands,
        ones (waits l),
        length-append (tickets l.line) l.demands,
        upto-ones l.next,
        upto-ones told.line.next,
      )
