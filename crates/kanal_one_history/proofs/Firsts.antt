-- What a legal history settled or withdrew had begun to wait.
use Rattle.kanal_one_history.proofs.Common.{◌≡◌, ◌<◌, ◌≤◌, ◌⊎◌, ℕ, ◌+◌, true, List, [], ◌∷◌, ◌++◌, Option, refl, sym, ap, ◌∙◌, subst, inl, inr, arith, cases_Bool, cases_lt, or_left, or_right, Outcome, Line, found, has, tickets, Event, Withdraw, Waits, Withdrawn, StepSpec, step, withdraw, StepCase, Enters, SendWaits, RecvWaits, enter-rest, step_case, opening_line, AreRising, waits, holds-after, Call, IsIn, IsToldOn, account_after, AreTold, IsLegal, after, history_of, line_after, HasBegunToWait, SettlesOrWithdraws, WaitsComeFirst}
use Rattle.kanal_journal.proofs.Counting.{tickets_of}
use Rattle.kanal_journal.proofs.Rising.{KeepsOrder, ordered, rise-first, told-order}
use Rattle.kanal_journal.proofs.Tickets.{found-some, has-append}
use Rattle.kanal_one_history.proofs.Telling.{live, live-made}
use Rattle.kanal_one_history.proofs.Accounts.{leads_as_told}

module _ {T : Type 0} where
  -- the step gave no ticket, or its reply says that the call waits under it
  record GivesAsTold (l : Line T) (told : StepSpec T) : Type 0 where
    next : (told.line.next ≡ l.next) ⊎ ((told.line.next ≡ l.next + 1) × (told.reply ≡ Waits l.next))

  -- each step gives one ticket at most, and tells of it
  case-gives : {l : Line T} {e : Event T} {told : StepSpec T} → StepCase l e told → GivesAsTold l told
  case-gives {l} (Enters e m r s some_receiver some_sender place) = record { next = inl (ap (λ (x : Line T). x.next) (enter-rest l m)) }
  case-gives (SendWaits m some_receiver some_sender full) = record { next = inr (refl, refl) }
  case-gives (RecvWaits some_receiver some_sender empty) = record { next = inr (refl, refl) }
  case-gives c = record { next = inl refl }

  -- what began to wait among later calls began among all of them
  begun-later : (c : Call T) (cs : List (Call T)) (t : ℕ) → HasBegunToWait cs t → HasBegunToWait (c ∷ cs) t
  begun-later c cs t h = record { before = c ∷ h.before; call = h.call; rest = h.rest; stands = ap (λ xs. c ∷ xs) h.stands; told = h.told }

  -- each number that the line gave among these calls was told to one of them
  begun-among : (l : Line T) (cs : List (Call T)) → AreTold l cs → (t : ℕ) → l.next ≤ t → t < (after l cs).next → HasBegunToWait cs t
  begun-among l [] told t low high = absurd (omega (arith, low, high))
  begun-among l (c ∷ cs) told t low high =
      elim (case-gives (step_case l c.event)).next [
        | inl is ↦ begun-later c cs t (begun-among (step l c.event).line cs told.1 t (omega (arith, is, low)) high)
        | inr is ↦
            elim (cases_lt l.next t) [
              | inl less ↦ begun-later c cs t (begun-among (step l c.event).line cs told.1 t (let n = is.0 in omega (arith, n, less)) high)
              | inr most ↦
                  let same : l.next ≡ t = omega (arith, low, most) in
                  record { before = []; call = c; rest = cs; stands = refl; told = ap (λ (x : Call T). x.reply) told.0 ∙ (is.1 ∙ ap Waits same) }
            ]
      ]

  -- the line tells of the calls before one, and of that one
  told-there : (l : Line T) (before : List (Call T)) (c : Call T) (rest : List (Call T)) → AreTold l (before ++ c ∷ rest) → AreTold l before × IsToldOn (after l before) c
  told-there l [] c rest told = (tt, told.0)
  told-there l (b ∷ bs) c rest told = let k = told-there (step l b.event).line bs c rest told.1 in ((told.0, k.0), k.1)

  -- a ticket among some that rise is below their end
  settled-below : (t : ℕ) (outcome : Outcome T) (ss : List (ℕ × Outcome T)) (low next : ℕ) → IsIn (t, outcome) ss → AreRising low (tickets_of ss) next → t < next
  settled-below t outcome [] low next i r = absurd i
  settled-below t outcome (s ∷ ss) low next (inl is) r =
      let same : t ≡ s.0 = ap (λ (p : ℕ × Outcome T). p.0) is in
      let last : s.0 + 1 ≤ next = rise-first (s.0 + 1) [] (tickets_of ss) next r.1 in
      omega (arith, same, last)
  settled-below t outcome (s ∷ ss) low next (inr i) r = settled-below t outcome ss (s.0 + 1) next i r.1

  -- what is withdrawn waited
  withdrawn-waits : (l : Line T) (t : ℕ) (ms : List T) (m : Option T) → found t l.line ≡ ms → (withdraw l t ms).reply ≡ Withdrawn m → has t (waits l) ≡ true
  withdrawn-waits l t [] m is r =
      elim (cases_Bool (has t l.demands)) [
        | inl x ↦ has-append t (tickets l.line) l.demands ∙ or_right (has t (tickets l.line)) (has t l.demands) x
        | inr x ↦ absurd (cc (rw x at r))
      ]
  withdrawn-waits l t (x ∷ xs) m is r =
      has-append t (tickets l.line) l.demands ∙ or_left (has t (tickets l.line)) (has t l.demands) (found-some t l.line x xs is)

  module _ (capacity : Option ℕ) (before : List (Call T)) (legal : IsLegal capacity before) where
    abbrev now : Line T
    now = line_after capacity before

    -- a ticket that waits after these calls is below the next number
    waits-below : (t : ℕ) → has t (waits now) ≡ true → t < now.next
    waits-below =
        let k = leads_as_told capacity before legal in
        let P : Line T → Type 0 = λ l. (t : ℕ) → has t (waits l) ≡ true → t < l.next in
        subst P k.line (holds-after capacity (history_of before).events (account_after capacity before) k.leads).below

    -- what the next call settles rises
    keeps-order : (e : Event T) → KeepsOrder now (step now e)
    keeps-order e =
        let k = leads_as_told capacity before legal in
        let es = (history_of before).events in
        let a = account_after capacity before in
        let P : Line T → Type 0 = λ l. KeepsOrder l (step l e) in
        subst P k.line (told-order a.line (ordered capacity es a k.leads).waits (holds-after capacity es a k.leads).one live e (step a.line e) (inl (sym (live-made a.line e))))

    -- so a ticket that the next call settles or withdraws is below the next number, too
    ends-below : (c : Call T) (t : ℕ) → IsToldOn now c → SettlesOrWithdraws c t → t < now.next
    ends-below c t told (inl s) =
        let there : IsIn (t, s.0) (step now c.event).settled = subst (λ (x : Call T). IsIn (t, s.0) x.settled) told s.1 in
        settled-below t s.0 (step now c.event).settled 0 now.next there (keeps-order c.event).settled
    ends-below c t told (inr w) =
        let reply : (step now (Withdraw t)).reply ≡ Withdrawn w.0 = ap (λ e. (step now e).reply) (sym w.1) ∙ (sym (ap (λ (x : Call T). x.reply) told) ∙ w.2) in
        waits-below t (withdrawn-waits now t (found t now.line) w.0 refl reply)

  -- each ticket that a call of a legal history settled or withdrew was told to a call before it
  pub waits_come_first : (capacity : Option ℕ) (log : List (Call T)) → IsLegal capacity log → WaitsComeFirst log
  waits_come_first capacity log legal before c rest t is ends =
      let told = told-there (opening_line capacity) before c rest (subst (IsLegal capacity) is legal) in
      begun-among (opening_line capacity) before told.0 t (omega arith) (ends-below capacity before told.0 c t told.1 ends)
