-- Each message goes somewhere.
use Rattle.kanal_journal.proofs.Common.{◌≡◌, ℕ, ◌+◌, Bool, true, false, not, cond, ◌==◌, List, [], ◌∷◌, ◌++◌, length, map, filter, Option, Some, None, refl, sym, ap, ◌∙◌, subst, inl, inr, arith, filter_map, cons_option, cases_Bool, false≢true, eqb-true, filter_map-append, map-append, Reason, Closed as ByClose, SendClosed as NoSendersLeft, Outcome, Taken, Ended, LineEntry, Line, bare, waiting, messages, tickets, has, under, over, is_ticket, holds_ticket, found, serve, seated, ended, ended_entry, Handles, Event, Send, TrySend, Refusal, Reply, StepSpec, refused, SendCase, Blocking, Trying, RecvCase, BlockingRecv, ReplyCase, Full, CountCase, ClonedTx, LastCase, LastTx, StepCase, Refuses, Replies, Enters, TakesFront, SendWaits, WithdrawsEntry, Drains, Recounts, EndsAll, Seals, Closes, step_case, Account, Leads, TellsWith, added, numbered, weigh, event_weight, reply_weight, outcome_weight, settlement_weight}
use Rattle.kanal_journal.proofs.Reading.{told_by}
use Rattle.kanal_journal.proofs.Settling.{AreApart, AllBare, AllWait, IsSeated, under-over}
use Rattle.kanal_journal.proofs.Holding.{Holds}
use Rattle.kanal_journal.proofs.Tickets.{apart-prefix}
use Rattle.kanal_journal.proofs.EachStep.{told-holds}
use Rattle.kanal_journal.proofs.Along.{told_history}

pub weigh-append : {X : Type 0} (f : X → ℕ) (xs ys : List X) → weigh f (xs ++ ys) ≡ weigh f xs + weigh f ys
weigh-append f [] ys = omega arith
weigh-append f (x ∷ xs) ys = omega (arith, weigh-append f xs ys)

tails : {X : Type 0} {a b : X} {xs ys : List X} → a ∷ xs ≡ b ∷ ys → xs ≡ ys
tails e = cc

module _ {T : Type 0} where
  -- a ticket that is not there has no message there
  none-cons : (t : ℕ) (o : Option ℕ) (m : T) (rest : List (LineEntry T)) (ts : List ℕ) → (has t ts ≡ false → messages rest ≡ []) → has t (cons_option o ts) ≡ false → messages (cond (is_ticket t o) (record { message = m; ticket = o } ∷ rest) rest) ≡ []
  none-cons t None m rest ts k h = k h
  none-cons t (Some u) m rest ts k h = elim (cases_Bool (u == t)) [ inl e ↦ absurd (false≢true (sym (rw e at h))) | inr e ↦ rw e (k (rw e at h)) ]

  none-found : (t : ℕ) (xs : List (LineEntry T)) → has t (tickets xs) ≡ false → found t xs ≡ []
  none-found t [] h = refl
  none-found t (x ∷ xs) h = none-cons t x.ticket x.message (filter (holds_ticket t) xs) (tickets xs) (λ k. none-found t xs k) h

  one-cons : (t : ℕ) (o : Option ℕ) (x : T) (rest : List (LineEntry T)) (ts : List ℕ) (m : T) (ms : List T) → AreApart (cons_option o ts) → (has t ts ≡ false → messages rest ≡ []) → (AreApart ts → messages rest ≡ m ∷ ms → ms ≡ []) → messages (cond (is_ticket t o) (record { message = x; ticket = o } ∷ rest) rest) ≡ m ∷ ms → ms ≡ []
  one-cons t None x rest ts m ms a k r h = r a h
  one-cons t (Some u) x rest ts m ms a k r h =
      elim (cases_Bool (u == t)) [
        | inl e ↦
            let same : u ≡ t = eqb-true u t e in
            let none : messages rest ≡ [] = k (subst (λ v. has v ts ≡ false) same a.0) in
            let both : x ∷ messages rest ≡ m ∷ ms = rw e at h in
            sym (tails both) ∙ none
        | inr e ↦ r a.1 (rw e at h)
      ]

  -- a ticket is there once at most
  found-one : (t : ℕ) (xs : List (LineEntry T)) (m : T) (ms : List T) → AreApart (tickets xs) → found t xs ≡ m ∷ ms → ms ≡ []
  found-one t [] m ms a h = absurd (cc)
  found-one t (x ∷ xs) m ms a h = one-cons t x.ticket x.message (filter (holds_ticket t) xs) (tickets xs) m ms a (λ k. none-found t xs k) (λ b k. found-one t xs m ms b k) h

module _ {T : Type 0} (h : T → ℕ) where
  abbrev outcomes : List (ℕ × Outcome T) → ℕ
  outcomes ss = weigh (λ s. outcome_weight h s.1) ss

  -- what one step tells, and what the line holds after it
  abbrev told_weight : StepSpec T → ℕ
  told_weight t = reply_weight h t.reply + outcomes t.settled + weigh h t.drained + weigh h t.cleared + weigh h (messages t.line.line)

  weigh-serve : (old : Line T) (line : List (LineEntry T)) (demands : List ℕ) → weigh h (messages line) ≡ outcomes (serve old line demands).settled + weigh h (messages (serve old line demands).line.line)
  weigh-serve old line [] = omega arith
  weigh-serve old [] (d ∷ ds) = omega arith
  weigh-serve old (e ∷ es) (d ∷ ds) = omega (arith, weigh-serve old es ds)

  taken-nothing : (ts : List ℕ) → outcomes (map (λ t. (t, Taken)) ts) ≡ 0
  taken-nothing [] = refl
  taken-nothing (t ∷ ts) = omega (arith, taken-nothing ts)

  bare-same : (xs : List (LineEntry T)) → messages (map (λ (e : LineEntry T). bare e.message) xs) ≡ messages xs
  bare-same [] = refl
  bare-same (x ∷ xs) = ap (λ ms. x.message ∷ ms) (bare-same xs)

  seated-same : (c : Option ℕ) (xs : List (LineEntry T)) → messages (seated c xs) ≡ messages xs
  seated-same c xs = map-append (λ (e : LineEntry T). e.message) (map (λ (e : LineEntry T). bare e.message) (under c xs)) (over c xs) ∙ (ap (λ ms. ms ++ messages (over c xs)) (bare-same (under c xs)) ∙ (sym (map-append (λ (e : LineEntry T). e.message) (under c xs) (over c xs)) ∙ ap messages (under-over c xs)))

  split-cons : (b : Bool) (x : LineEntry T) (yes_ no_ : List (LineEntry T)) → weigh h (messages (cond b (x ∷ yes_) yes_)) + weigh h (messages (cond (not b) (x ∷ no_) no_)) ≡ h x.message + (weigh h (messages yes_) + weigh h (messages no_))
  split-cons true x yes_ no_ = omega arith
  split-cons false x yes_ no_ = omega arith

  -- the entries with a ticket and those without it are all
  weigh-split : (t : ℕ) (xs : List (LineEntry T)) → weigh h (found t xs) + weigh h (messages (filter (λ e. not (holds_ticket t e)) xs)) ≡ weigh h (messages xs)
  weigh-split t [] = refl
  weigh-split t (x ∷ xs) = omega (arith, split-cons (holds_ticket t x) x (filter (holds_ticket t) xs) (filter (λ e. not (holds_ticket t e)) xs), weigh-split t xs)

  ended-demands : (reason : Reason) (ts : List ℕ) → outcomes (map (λ t. (t, Ended reason None)) ts) ≡ 0
  ended-demands reason [] = refl
  ended-demands reason (t ∷ ts) = omega (arith, ended-demands reason ts)

  ended-bare : (reason : Reason) (xs : List (LineEntry T)) → AllBare xs → filter_map (ended_entry reason) xs ≡ []
  ended-bare reason [] a = refl
  ended-bare reason (x ∷ xs) a = rw a.0 (ended-bare reason xs a.1)

  ended-waiting : (reason : Reason) (xs : List (LineEntry T)) → AllWait xs → outcomes (filter_map (ended_entry reason) xs) ≡ weigh h (messages xs)
  ended-waiting reason [] a = refl
  ended-waiting reason (x ∷ xs) a = rw a.1 (ap (λ k. h x.message + k) (ended-waiting reason xs a.2))

  -- what ends and what stays below the capacity are all
  weigh-ended : (reason : Reason) (l : Line T) → IsSeated l.capacity l.line → outcomes (ended reason l) + weigh h (messages (under l.capacity l.line)) ≡ weigh h (messages l.line)
  weigh-ended reason l seats =
      let u = under l.capacity l.line in
      let o = over l.capacity l.line in
      let f = filter_map (ended_entry {T = T} reason) in
      let one : f l.line ≡ f o = ap f (sym (under-over l.capacity l.line)) ∙ (filter_map-append (ended_entry reason) u o ∙ ap (λ xs. xs ++ f o) (ended-bare reason u seats.0)) in
      let two : weigh h (messages l.line) ≡ weigh h (messages u) + weigh h (messages o) = ap (λ xs. weigh h (messages xs)) (sym (under-over l.capacity l.line)) ∙ (ap (weigh h) (map-append (λ (e : LineEntry T). e.message) u o) ∙ weigh-append h (messages u) (messages o)) in
      omega (arith, two, ap outcomes one, ended-waiting reason o seats.1, ended-demands reason l.demands, weigh-append (λ s. outcome_weight h s.1) (f l.line) (map (λ t. (t, Ended reason None)) l.demands))

  entering : (l : Line T) (m : T) (ms : List T) → ms ≡ messages (l.line ++ bare m ∷ []) → weigh h ms ≡ weigh h (messages l.line) + h m
  entering l m ms is = omega (arith, ap (weigh h) is, ap (weigh h) (map-append (λ (e : LineEntry T). e.message) l.line (bare m ∷ [])), weigh-append h (messages l.line) (m ∷ []))

  module _ (l : Line T) (seats : IsSeated l.capacity l.line) (apart : AreApart (tickets l.line)) where
    -- the step tells and keeps all that was there and came
    abbrev pub Weighs : Event T → StepSpec T → Type 0
    Weighs e told = weigh h (messages l.line) + event_weight h e ≡ told_weight told

    refused-weighs : (e : Event T) (reason : Refusal) → Weighs e (refused l reason e)
    refused-weighs (Send m) reason = omega arith
    refused-weighs (TrySend m) reason = omega arith
    refused-weighs e reason = omega arith

    reply-weighs : {e : Event T} {r : Reply T} → ReplyCase e r → event_weight h e ≡ reply_weight h r
    reply-weighs (Full m) = refl
    reply-weighs c = refl

    send-weighs : {e : Event T} {m : T} {r : Reply T} → SendCase e m r → (event_weight h e ≡ h m) × (reply_weight h r ≡ 0)
    send-weighs (Blocking m) = (refl, refl)
    send-weighs (Trying m) = (refl, refl)

    recv-weighs : {e : Event T} → RecvCase e → event_weight h e ≡ 0
    recv-weighs BlockingRecv = refl
    recv-weighs c = refl

    count-weighs : {e : Event T} {senders receivers : ℕ} → CountCase l e senders receivers → event_weight h e ≡ 0
    count-weighs ClonedTx = refl
    count-weighs c = refl

    last-weighs : {e : Event T} {senders receivers : ℕ} {reason : Reason} → LastCase l e senders receivers reason → event_weight h e ≡ 0
    last-weighs (LastTx one) = refl
    last-weighs c = refl

    case-weighs : {e : Event T} {told : StepSpec T} → StepCase l e told → Weighs e told
    case-weighs (Refuses e reason clear) = refused-weighs e reason
    case-weighs (Replies e r c) = omega (arith, reply-weighs c)
    case-weighs (Enters e m r s some_receiver some_sender place) =
        let k = send-weighs s in omega (arith, k.0, k.1, weigh-serve l (l.line ++ bare m ∷ []) l.demands, entering l m (messages (l.line ++ bare m ∷ [])) refl)
    case-weighs (TakesFront e x xs r some_receiver is) =
        omega (arith, recv-weighs r, ap (λ ys. weigh h (messages ys)) is, taken-nothing (tickets ((x ∷ []) ++ under l.capacity xs)), ap (weigh h) (seated-same l.capacity xs))
    case-weighs (SendWaits m some_receiver some_sender full) =
        omega (arith, ap (weigh h) (map-append (λ (e : LineEntry T). e.message) l.line (waiting m l.next ∷ [])), weigh-append h (messages l.line) (m ∷ []))
    case-weighs (WithdrawsEntry t m ms is) = omega (arith, weigh-split t l.line, ap (weigh h) is, ap (weigh h) (found-one t l.line m ms apart is))
    case-weighs (Drains some_receiver) = omega (arith, taken-nothing (tickets l.line))
    case-weighs (Recounts e senders receivers c) = omega (arith, count-weighs c)
    case-weighs (EndsAll e senders receivers reason c) = omega (arith, last-weighs c, weigh-ended reason l seats)
    case-weighs (Seals some_sender) = omega (arith, ended-demands NoSendersLeft l.demands)
    case-weighs (Closes left) = omega (arith, weigh-ended ByClose l seats)
    case-weighs c = omega arith

    pub told-weighs : (handles : Handles) (e : Event T) (told : StepSpec T) → TellsWith handles l e told → Weighs e told
    told-weighs handles e told is = told_by (Weighs e) handles l e told is (case-weighs (step_case l e)) (refused-weighs e)

  abbrev pub account_weight : Account T → ℕ
  account_weight a = weigh (reply_weight h) a.replies + weigh (settlement_weight h) a.settled + weigh h a.drained + weigh h a.cleared + weigh h (messages a.line.line)

  weigh-numbered : (n : ℕ) (settled : List (ℕ × Outcome T)) → weigh (settlement_weight h) (numbered n settled) ≡ outcomes settled
  weigh-numbered n [] = refl
  weigh-numbered n (s ∷ ss) = ap (λ k. outcome_weight h s.1 + k) (weigh-numbered n ss)

  weigh-added : (a : Account T) (e : Event T) (told : StepSpec T) → weigh h (messages a.line.line) + event_weight h e ≡ told_weight told → account_weight a + event_weight h e ≡ account_weight (added a e told)
  weigh-added a e told w =
      omega (
        arith,
        w,
        weigh-append (reply_weight h) a.replies (told.reply ∷ []),
        weigh-append (settlement_weight h) a.settled (numbered (length a.replies) told.settled),
        weigh-numbered (length a.replies) told.settled,
        weigh-append h a.drained told.drained,
        weigh-append h a.cleared told.cleared,
      )

  -- what was told and what is left weigh as much as what came
  pub weigh-leads : (past : List (Event T)) (a b : Account T) (events : List (Event T)) → Holds (told_history past a) a.line → Leads a events b → account_weight a + weigh (event_weight h) events ≡ account_weight b
  weigh-leads past a b [] now l = omega (arith, ap account_weight l)
  weigh-leads past a b (e ∷ es) now l =
      let told = l.1.0 in
      let P : Account T → Type 0 = λ x. Holds (told_history (past ++ e ∷ []) x) x.line in
      let next : P l.0 = subst P (sym l.1.2) (told-holds (told_history past a) a.line now (length a.replies) a.handles e told l.1.1) in
      let one = told-weighs a.line now.seats (apart-prefix (tickets a.line.line) a.line.demands now.apart) a.handles e told l.1.1 in
      omega (arith, weigh-leads (past ++ e ∷ []) l.0 b es next l.2, weigh-added a e told one, ap account_weight l.1.2)
