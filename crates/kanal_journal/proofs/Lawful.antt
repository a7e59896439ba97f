-- The laws of every list of events.
use Rattle.kanal_journal.proofs.Common.{◌≡◌, ◌≢◌, ℕ, ◌+◌, ◌≤◌, ◌⊎◌, zero, suc, true, cond, ◌==◌, List, [], ◌∷◌, ◌++◌, length, map, filter, take, drop, Option, Some, None, refl, sym, ap, ◌∙◌, subst, inl, inr, arith, append-nil, append_assoc, cases_Bool, cases_lt, eqb-true, eq-eqb, length-take, map-append, Outcome, is_at, tickets, under, over, buffered, Event, Settlement, Account, Leads, opening_account, numbered, along, withdrawn_ticket, kept, demands, weigh, told_history, settled_times, withdrawn_times}
use Rattle.kanal_journal.proofs.Sends.{along-last}
use Rattle.kanal_journal.proofs.Tickets.{bare-tickets, tickets-over}
use Rattle.kanal_journal.proofs.Holding.{Holds, waits, counts}
use Rattle.kanal_journal.proofs.Along.{holds-opening, holds-along}
use Rattle.kanal_journal.proofs.EachStep.{told-holds}
use Rattle.kanal_journal.proofs.Weighing.{weigh-append}
use Rattle.kanal_journal.proofs.Counting.{told-counts, tickets_of, upto}

-- a weight that counts one number
abbrev pub is_one : ℕ → ℕ → ℕ
is_one t u = cond (u == t) 1 0

-- a number stands once below another, at most
upto-below : (t n : ℕ) → n ≤ t → upto (is_one t) n ≡ 0
upto-below t zero h = refl
upto-below t (suc n) h =
    elim (cases_Bool (n == t)) [
      | inl e ↦ absurd (let same : n ≡ t = eqb-true n t e in omega (arith, h, same))
      | inr e ↦ rw e (omega (arith, upto-below t n (omega arith)))
    ]

upto-once : (t n : ℕ) → upto (is_one t) n ≤ 1
upto-once t zero = omega arith
upto-once t (suc n) =
    elim (cases_Bool (n == t)) [
      | inl e ↦ let same : n ≡ t = eqb-true n t e in rw e (omega (arith, upto-below t n (omega (arith, same))))
      | inr e ↦ rw e (omega (arith, upto-once t n))
    ]

count-weighs : (t : ℕ) (xs : List ℕ) → length (filter (λ u. u == t) xs) ≡ weigh (is_one t) xs
count-weighs t [] = refl
count-weighs t (x ∷ xs) = elim (cases_Bool (x == t)) [ inl e ↦ rw e (omega (arith, count-weighs t xs)) | inr e ↦ rw e (omega (arith, count-weighs t xs)) ]

drop-short : {X : Type 0} (k : ℕ) (xs : List X) → length xs ≤ k → drop k xs ≡ []
drop-short zero [] h = refl
drop-short zero (x ∷ xs) h = absurd (omega arith)
drop-short (suc k) [] h = refl
drop-short (suc k) (x ∷ xs) h = drop-short k xs (omega arith)

-- where something is over the capacity, the places below it are all taken
full-under : {X : Type 0} (c : Option ℕ) (xs : List X) → (over c xs ≡ [] → ⊥) → is_at (length (under c xs)) c ≡ true
full-under None xs h = absurd (h refl)
full-under (Some k) xs h =
    elim (cases_lt k (length xs)) [
      | inl less ↦ eq-eqb (length (take k xs)) k (omega (arith, length-take k xs))
      | inr more ↦ absurd (h (drop-short k xs more))
    ]

module _ {T : Type 0} where
  settled-weigh : (t : ℕ) (ss : List (Settlement T)) → settled_times t ss ≡ weigh (is_one t) (map (λ s. s.ticket) ss)
  settled-weigh t [] = refl
  settled-weigh t (s ∷ ss) = elim (cases_Bool (s.ticket == t)) [ inl e ↦ rw e (omega (arith, settled-weigh t ss)) | inr e ↦ rw e (omega (arith, settled-weigh t ss)) ]

  numbered-tickets : (n : ℕ) (settled : List (ℕ × Outcome T)) → map (λ s. s.ticket) (numbered n settled) ≡ tickets_of settled
  numbered-tickets n [] = refl
  numbered-tickets n (s ∷ ss) = ap (λ ts. s.0 ∷ ts) (numbered-tickets n ss)

  module _ (capacity : Option ℕ) (events : List (Event T)) (a : Account T) (l : Leads (opening_account capacity) events a) where
    pub holds-after : Holds (told_history events a) a.line
    holds-after = holds-along [] (opening_account capacity) a events (holds-opening capacity) l

    pub one-side : (a.line.line ≡ []) ⊎ (a.line.demands ≡ [])
    one-side = holds-after.one

    pub lengths : length a.line.line + length (demands (told_history events a)) ≡ length (kept (told_history events a)) + length a.line.demands
    lengths = counts (told_history events a) a.line holds-after

    pub full : tickets a.line.line ≢ [] → is_at (buffered a.line) a.line.capacity ≡ true
    full some = full-under a.line.capacity a.line.line (λ none. some (tickets-over a.line.capacity a.line.line holds-after.seats ∙ ap tickets none))

  -- what was settled, what was withdrawn and what waits weigh no more than the tickets that were given
  abbrev IsWithinGiven : ℕ → List (Event T) → Account T → Type 0
  IsWithinGiven t past a = weigh (is_one t) (map (λ (s : Settlement T). s.ticket) a.settled) + weigh (is_one t) (along withdrawn_ticket past a.replies) + weigh (is_one t) (waits a.line) ≤ upto (is_one t) a.line.next

  within-given : (t : ℕ) (past : List (Event T)) (a b : Account T) (events : List (Event T)) → Holds (told_history past a) a.line → IsWithinGiven t past a → Leads a events b → IsWithinGiven t (past ++ events) b
  within-given t past a b [] now w l = let P : Account T → Type 0 = IsWithinGiven t (past ++ []) in subst P (sym l) (rw (append-nil past) w)
  within-given t past a b (e ∷ es) now w l =
      let g = is_one t in
      let told = l.1.0 in
      let n = length a.replies in
      let below : tickets (under a.line.capacity a.line.line) ≡ [] = bare-tickets (under a.line.capacity a.line.line) now.seats.0 in
      let k = (told-counts g a.line below a.handles e told l.1.1).settled in
      let settled : weigh g (map (λ (s : Settlement T). s.ticket) (a.settled ++ numbered n told.settled)) ≡ weigh g (map (λ (s : Settlement T). s.ticket) a.settled) + weigh g (tickets_of told.settled) =
      ap (weigh g) (map-append (λ (s : Settlement T). s.ticket) a.settled (numbered n told.settled)) ∙ (weigh-append g (map (λ (s : Settlement T). s.ticket) a.settled) (map (λ (s : Settlement T). s.ticket) (numbered n told.settled)) ∙ ap (λ xs. weigh g (map (λ (s : Settlement T). s.ticket) a.settled) + weigh g xs) (numbered-tickets n told.settled)) in
      let gone : weigh g (along withdrawn_ticket (past ++ e ∷ []) (a.replies ++ told.reply ∷ [])) ≡ weigh g (along withdrawn_ticket past a.replies) + weigh g (withdrawn_ticket e told.reply) =
      ap (weigh g) (along-last withdrawn_ticket past a.replies e told.reply now.same) ∙ weigh-append g (along withdrawn_ticket past a.replies) (withdrawn_ticket e told.reply) in
      let P : Account T → Type 0 = IsWithinGiven t (past ++ e ∷ []) in
      let Q : Account T → Type 0 = λ x. Holds (told_history (past ++ e ∷ []) x) x.line in
      let next : P l.0 = subst P (sym l.1.2) (omega (arith, w, k, settled, gone)) in
      let holds : Q l.0 = subst Q (sym l.1.2) (told-holds (told_history past a) a.line now n a.handles e told l.1.1) in
      let R : List (Event T) → Type 0 = λ xs. IsWithinGiven t xs b in
      subst R (append_assoc past (e ∷ []) es) (within-given t (past ++ e ∷ []) l.0 b es holds next l.2)

  -- a ticket ends once at most
  pub ends-once : (capacity : Option ℕ) (events : List (Event T)) (a : Account T) → Leads (opening_account capacity) events a → (t : ℕ) → settled_times t a.settled + withdrawn_times t events a.replies ≤ 1
  ends-once capacity events a l t =
      let w = within-given t [] (opening_account capacity) a events (holds-opening capacity) (omega arith) l in
      omega (arith, w, upto-once t a.line.next, settled-weigh t a.settled, count-weighs t (along withdrawn_ticket events a.replies))
