-- What a running channel holds and tells after a step was noted.
use Rattle.kanal_journal.proofs.Common.{◌≡◌, ℕ, ◌+◌, ◌≤◌, zero, suc, List, [], ◌∷◌, ◌++◌, length, map, take, Option, Some, None, refl, sym, ap, subst, inl, inr, ◌⊎◌, arith, length-append, cases_Bool, length-map, Outcome, LineEntry, Line, bare, tickets, under, Ticket, ChannelView, line_of, Handles, Event, CloneTx, CloneRx, DropTx, DropRx, Reply, Settlement, Running, Account, added, numbered as with_number, handles_after, opening_account, opening_line, AreGiven, waiting_count, is_done, told_of, reply_of, settled_of, drained_of, cleared_of, RunningStep, IsOpened, IsWithinEvents, IsSame, account_of}
use Rattle.kanal_events.specs.declared.step_result.StepResult.{StepResult}
use Rattle.kanal_journal.specs.StepResult.{ServedPost}
use Rattle.kanal_journal.proofs.Counting.{told-counts, told-count}
use Rattle.kanal_journal.proofs.Numbering.{numbered-more}

module _ {T : Type 0} where
  -- accounts with the same parts
  same-account : (l l' : Line T) (hs hs' : Handles) (rs rs' : List (Reply T)) (ss ss' : List (Settlement T)) (ds ds' cs cs' : List T) → l ≡ l' → hs ≡ hs' → rs ≡ rs' → ss ≡ ss' → ds ≡ ds' → cs ≡ cs'
      → ◌≡◌ {A = Account T} (record { line = l; handles = hs; replies = rs; settled = ss; drained = ds; cleared = cs }) (record { line = l'; handles = hs'; replies = rs'; settled = ss'; drained = ds'; cleared = cs' })
  same-account l l' hs hs' rs rs' ss ss' ds ds' cs cs' line handles replies settled drained cleared = cc

  module _ (replies : List (Reply T)) (old new : Running T) (e : Event T) (reply : Reply T) (noted : RunningStep (length replies) old e reply new) where
    -- what the event told was added, and its reply to the replies
    pub noted-all : account_of (replies ++ reply ∷ []) new ≡ added (account_of replies old) e noted.told
    noted-all =
        let told = added (account_of replies old) e noted.told in
        same-account (line_of new.core) told.line new.handles told.handles (replies ++ reply ∷ []) told.replies new.settled.items told.settled new.drained.items told.drained new.cleared.items told.cleared
        noted.line noted.handles (ap (λ r. replies ++ r ∷ []) noted.replied) noted.settled noted.drained noted.cleared

    -- what the event told was added, but for its reply
    pub noted-rest : account_of replies new ≡ record (added (account_of replies old) e noted.told) { replies = replies }
    noted-rest =
        let told = added (account_of replies old) e noted.told in
        same-account (line_of new.core) told.line new.handles told.handles replies replies new.settled.items told.settled new.drained.items told.drained new.cleared.items told.cleared
        noted.line noted.handles refl noted.settled noted.drained noted.cleared

  -- as many settlements are noted as there were
  pub noted-count : (n : ℕ) (old new : List (Settlement T)) (settled : List (ℕ × Outcome T)) → new ≡ old ++ with_number n settled → length new ≡ length old + length settled
  noted-count n old new settled is =
      omega (arith, ap length is, length-append old (with_number n settled), length-map {B = Settlement T} settled (λ s. record { step = n; ticket = s.0; outcome = s.1 }))

  bare-under : (c : Option ℕ) (ms : List T) → tickets (under c (map bare ms)) ≡ []
  bare-under None [] = refl
  bare-under None (m ∷ ms) = bare-under None ms
  bare-under (Some zero) ms = refl
  bare-under (Some (suc k)) [] = refl
  bare-under (Some (suc k)) (m ∷ ms) = bare-under (Some k) ms

  bare-first : (ms : List T) (xs : List (LineEntry T)) → tickets (take (length ms) (map bare ms ++ xs)) ≡ []
  bare-first [] xs = refl
  bare-first (m ∷ ms) xs = bare-first ms xs

  -- nobody waits below the capacity, where the buffer stands first in the line and is full or all of it
  pub nobody-below : (c : Option ℕ) (line : List (LineEntry T)) (ms : List T) (xs : List (LineEntry T)) → line ≡ map bare ms ++ xs → (line ≡ map bare ms) ⊎ (c ≡ Some (length ms)) → tickets (under c line) ≡ []
  nobody-below c line ms xs is (inl all) = rw all (bare-under c ms)
  nobody-below c line ms xs is (inr full) = rw (full, is) (bare-first ms xs)

  -- an event adds at most one live handle to a side
  pub few-more : (handles : Handles) (e : Event T) (r : Reply T) → ((handles_after handles e r).tx ≤ handles.tx + 1) × ((handles_after handles e r).rx ≤ handles.rx + 1)
  few-more handles CloneTx r = elim (cases_Bool (is_done r)) [ inl e ↦ rw e (omega arith, omega arith) | inr e ↦ rw e (omega arith, omega arith) ]
  few-more handles CloneRx r = elim (cases_Bool (is_done r)) [ inl e ↦ rw e (omega arith, omega arith) | inr e ↦ rw e (omega arith, omega arith) ]
  few-more handles DropTx r = elim (cases_Bool (is_done r)) [ inl e ↦ rw e (omega arith, omega arith) | inr e ↦ rw e (omega arith, omega arith) ]
  few-more handles DropRx r = elim (cases_Bool (is_done r)) [ inl e ↦ rw e (omega arith, omega arith) | inr e ↦ rw e (omega arith, omega arith) ]
  few-more handles e r = (omega arith, omega arith)

  -- what an answered event settles, drains and clears is within what waited and what the line held
  pub answered-counts : (handles : Handles) (old new : Line T) (e : Event T) (before after : List T) (made : StepResult T (Unit {0})) → tickets (under old.capacity old.line) ≡ [] → ServedPost handles old e new before after made
      → (length (settled_of made) + waiting_count new + old.next ≤ waiting_count old + new.next) × (length after + length new.line ≤ length before + length old.line + 1) × (length (cleared_of made) + length new.line ≤ length old.line + 1)
  answered-counts handles old new e before after made below is =
      let k = told-counts (λ x. 1) old below handles e (told_of new made) is.told in
      (told-count old below handles e (told_of new made) is.told, omega (arith, k.left, ap length is.drained, length-append before (drained_of made)), omega (arith, k.left))

  -- where the account is the same, no more is there
  pub within-same : (n : ℕ) (replies : List (Reply T)) (old new : Running T) → account_of replies new ≡ account_of replies old → AreGiven new.tickets.items new.core → IsWithinEvents n old → IsWithinEvents n new
  within-same n replies old new is given within =
      record {
        tickets = given;
        given = omega (arith, ap (λ (a : Account T). a.line.next) is, within.given);
        waiting = omega (arith, ap (λ (a : Account T). length a.settled + waiting_count a.line) is, within.waiting);
        drains = omega (arith, ap (λ (a : Account T). length a.drained + length a.line.line) is, within.drains);
        clears = omega (arith, ap (λ (a : Account T). length a.cleared + length a.line.line) is, within.clears);
        senders = omega (arith, ap (λ (a : Account T). a.handles.tx) is, within.senders);
        receivers = omega (arith, ap (λ (a : Account T). a.handles.rx) is, within.receivers);
      }

  -- where only the room is another, what was told is the same
  pub same-told : (replies : List (Reply T)) (old new : Running T) → IsSame old new → account_of replies new ≡ account_of replies old
  same-told replies old new same =
      same-account (line_of new.core) (line_of old.core) new.handles old.handles replies replies new.settled.items old.settled.items new.drained.items old.drained.items new.cleared.items old.cleared.items
      (ap line_of same.core) same.handles refl same.settled same.drained same.cleared

  -- and no more is there
  pub same-within : (n : ℕ) (old new : Running T) → IsSame old new → IsWithinEvents n old → IsWithinEvents n new
  same-within n old new same within =
      let N : List Ticket → Type 0 = λ ts. AreGiven ts old.core in
      let C : ChannelView T (Unit {0}) → Type 0 = λ k. AreGiven new.tickets.items k in
      within-same n [] old new (same-told [] old new same) (subst C (sym same.core) (subst N (sym same.tickets) within.tickets)) within

  -- nothing was told yet on a new channel
  pub opened-told : (capacity : Option ℕ) (r : Running T) → IsOpened capacity r → account_of [] r ≡ opening_account capacity
  opened-told capacity r opened =
      same-account (line_of r.core) (opening_line capacity) r.handles (record { tx = 1; rx = 1 }) [] [] r.settled.items [] r.drained.items [] r.cleared.items []
      (ap line_of opened.core) opened.handles refl opened.settled opened.drained opened.cleared

  -- one event more brings no more than one event can
  pub within-next : (n : ℕ) (old new : Running T) (e : Event T) (made : StepResult T (Unit {0})) → tickets (under old.core.capacity (line_of old.core).line) ≡ [] → IsWithinEvents n old
      → ServedPost old.handles (line_of old.core) e (line_of new.core) old.drained.items new.drained.items made → new.handles ≡ handles_after old.handles e (reply_of made)
      → AreGiven new.tickets.items new.core → length new.tickets.items ≤ length old.tickets.items + 1
      → new.settled.items ≡ old.settled.items ++ with_number n (settled_of made) → new.cleared.items ≡ old.cleared.items ++ cleared_of made → IsWithinEvents (n + 1) new
  within-next n old new e made below within answered handles given one settled cleared =
      let counts = answered-counts old.handles (line_of old.core) (line_of new.core) e old.drained.items new.drained.items made below answered in
      let more = numbered-more old.tickets.items new.tickets.items old.core.next new.core.next within.tickets.numbered given.numbered one in
      let few = few-more old.handles e (reply_of made) in
      record {
        tickets = given;
        given = omega (arith, more, within.given);
        waiting = omega (arith, counts.0, more, within.waiting, noted-count n old.settled.items new.settled.items (settled_of made) settled);
        drains = omega (arith, counts.1, within.drains);
        clears = omega (arith, counts.2, within.clears, ap length cleared, length-append old.cleared.items (cleared_of made));
        senders = omega (arith, few.0, within.senders, ap (λ (h : Handles). h.tx) handles);
        receivers = omega (arith, few.1, within.receivers, ap (λ (h : Handles). h.rx) handles);
      }
