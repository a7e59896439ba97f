-- Each event keeps what holds of the history and the line.
use Rattle.kanal_journal.proofs.Common.{◌≡◌, ℕ, ◌≤◌, true, false, ◌||◌, List, [], ◌∷◌, ◌++◌, length, Option, Some, None, refl, sym, ap, inl, inr, arith, append-nil, sum_by, is_some, cases_Bool, false≢true, nat_tests, SendClosed as NoSendersLeft, Given, LineEntry, Line, bare, messages, tickets, has, is_below, has_place, found, Moved, enter, leave, drain, end_all, wait_send, wait_recv, without_entry, without_demand, under-nothing, Handles, Event, Send, Recv, Drain, Withdraw, Seal, Reply, Waits, Got, Drained, Withdrawn, Done, Refused, StepSpec, only, moving, message_of, seal, Reason, SendCase, RecvCase, LastCase, LastTx, LastRx, StepCase, Refuses, Replies, Enters, TakesFront, SendWaits, RecvWaits, WithdrawsDemand, WithdrawsEntry, Drains, Recounts, EndsAll, Seals, Closes, count-zero, step_case, numbered, TellsWith, PairedHistory, cleared_by, is_gone, given}
use Rattle.kanal_core.proofs.Sided.{serve-nothing}
use Rattle.kanal_journal.proofs.Reading.{IsPlain, same, told_by, refused-plain, reply-plain, count-plain, last-plain, send-read, recv-read}
use Rattle.kanal_journal.proofs.Sends.{longer, was_taken}
use Rattle.kanal_journal.proofs.Settling.{AreApart, or_parts}
use Rattle.kanal_journal.proofs.Holding.{Holds, waits, is_known}
use Rattle.kanal_journal.proofs.EachEvent.{moves_enter, moves_take, moves_given, moves_withdraw, moves_withdraw_demand, moves_wait, moves_wait_recv}
use Rattle.kanal_journal.proofs.Upkeep.{holds_next}
use Rattle.kanal_journal.proofs.Tickets.{found-some, apart-prefix}
use Rattle.kanal_journal.proofs.Cleaning.{clean_enter, clean_given, clean_take, clean_wait_send, clean_wait_recv, clean_withdraw_entry, clean_withdraw_demand}
use Rattle.kanal_journal.proofs.Draining.{holds_drain}
use Rattle.kanal_journal.proofs.Ending.{holds_close, holds_quiet, holds_end, holds_counts}

none-some : {X : Type 0} (o : Option X) → is_some o ≡ false → o ≡ None
none-some None h = refl
none-some (Some x) h = absurd (cc)

-- a place that is not below the capacity
not-below : (k : ℕ) (c : Option ℕ) → is_below k c ≡ false → (d : ℕ) × (c ≡ Some d) × (d ≤ k)
not-below k None h = absurd (false≢true (sym h))
not-below k (Some d) h = (d, refl, grind (arith, nat_tests))

module _ {T : Type 0} (h : PairedHistory T) (l : Line T) (now : Holds h l) (n : ℕ) where
  -- what holds after the event
  abbrev pub After : Event T → StepSpec T → Type 0
  After e told = Holds (longer h e told.reply (numbered n told.settled) told.drained) told.line

  not-closed : (l.receivers ≡ 0 → ⊥) → sum_by cleared_by h.replies ≡ 0
  not-closed some_receiver = elim now.shut [ inl z ↦ z | inr z ↦ absurd (some_receiver z.1) ]

  next-unknown : is_known h l.next ≡ false
  next-unknown = elim (cases_Bool (is_known h l.next)) [ inl k ↦ absurd (let small = (now.known l.next k).0 in omega arith) | inr k ↦ k ]

  plain : (e : Event T) (r : Reply T) → IsPlain e r → After e (only l r)
  plain e r k = holds_quiet h l now n e r k.0 k.1 k.2 k.3

  -- a message enters, and is served if a demand waits
  enters : (e : Event T) (m : T) (r : Reply T) → SendCase e m r → (l.receivers ≡ 0 → ⊥) → has_place l ≡ true → (ds : List ℕ) → l.demands ≡ ds → After e (moving (enter l m) r)
  enters e m r s some_receiver place [] d =
      let k = send-read s in
      let below : is_below (length l.line) l.capacity ≡ true = rw d at place in
      let is : moving (enter l m) r ≡ only (record l { line = l.line ++ bare m ∷ []; demands = [] }) r = rw d refl in
      same (After e) (moving (enter l m) r) (only (record l { line = l.line ++ bare m ∷ []; demands = [] }) r) is
      (holds_next h l now e r [] [] (record l { line = l.line ++ bare m ∷ []; demands = [] }) (moves_enter h l now.same e r m k.0 k.1 k.2 d) (clean_enter l e r now.one now.apart now.seats now.below k.2 m k.1 d below) k.3 (not-closed some_receiver))
  enters e m r s some_receiver place (d ∷ ds) was =
      let k = send-read s in
      let empty : l.line ≡ [] = elim now.one [ inl x ↦ x | inr x ↦ absurd (cc) ] in
      let told : StepSpec T = moving (record { line = record l { line = []; demands = ds }; settled = (d, Given m) ∷ [] }) r in
      let is : moving (enter l m) r ≡ told = rw (was, empty) (ap (λ (k : Moved T). moving (record k { settled = (d, Given m) ∷ k.settled }) r) (serve-nothing (record l { line = []; demands = d ∷ ds }) ds)) in
      let apart : AreApart (d ∷ ds) = rw (empty, was) at now.apart in
      same (After e) (moving (enter l m) r) told is
      (holds_next h l now e r (numbered n ((d, Given m) ∷ [])) [] (record l { line = []; demands = ds }) (moves_given h l now.same e r n m d ds k.0 k.1 k.2 empty was apart.0) (clean_given l e r now.one now.apart now.seats now.below k.2 n m d ds k.1 empty was) k.3 (not-closed some_receiver))

  -- a send that waits
  waits_send : (m : T) → (l.receivers ≡ 0 → ⊥) → has_place l ≡ false → (ds : List ℕ) → l.demands ≡ ds → After (Send m) (only (wait_send l m) (Waits l.next))
  waits_send m some_receiver full [] d =
      let over = not-below (length l.line) l.capacity (rw d at full) in
      let unknown = or_parts (is_gone h l.next) (was_taken h.settled l.next || is_some (given h.settled l.next)) next-unknown in
      let untaken = or_parts (was_taken h.settled l.next) (is_some (given h.settled l.next)) unknown.1 in
      holds_next h l now (Send m) (Waits l.next) [] [] (wait_send l m) (moves_wait h l now.same m l.next d unknown.0 untaken.0) (clean_wait_send l (Send m) (Waits l.next) now.one now.apart now.seats now.below refl m over.0 refl d over.1 over.2) refl (not-closed some_receiver)
  waits_send m some_receiver full (d ∷ ds) was = absurd (false≢true (sym (rw was at full)))

  -- a receive that waits
  waits_recv : (l.receivers ≡ 0 → ⊥) → l.line ≡ [] → After Recv (only (wait_recv l) (Waits l.next))
  waits_recv some_receiver empty =
      let unknown = or_parts (is_gone h l.next) (was_taken h.settled l.next || is_some (given h.settled l.next)) next-unknown in
      let untaken = or_parts (was_taken h.settled l.next) (is_some (given h.settled l.next)) unknown.1 in
      holds_next h l now Recv (Waits l.next) [] [] (wait_recv l) (moves_wait_recv h l now.same l.next empty unknown.0 (none-some (given h.settled l.next) untaken.1)) (clean_wait_recv l Recv (Waits l.next) now.one now.apart now.seats now.below refl refl empty) refl (not-closed some_receiver)

  -- the front is taken
  takes_front : (e : Event T) (x : LineEntry T) (xs : List (LineEntry T)) → RecvCase e → (l.receivers ≡ 0 → ⊥) → l.line ≡ x ∷ xs → After e (moving (leave l (x ∷ []) xs) (Got x.message))
  takes_front e x xs r some_receiver is =
      let k = recv-read r x.message in
      let none : l.demands ≡ [] = elim now.one [ inl k ↦ absurd (cc) | inr k ↦ k ] in
      let apart : AreApart (tickets l.line) = apart-prefix (tickets l.line) l.demands now.apart in
      holds_next h l now e (Got x.message) (numbered n (leave l (x ∷ []) xs).settled) [] (leave l (x ∷ []) xs).line
      (moves_take h l now.same e (Got x.message) n x xs k.0 k.1 k.2 is none apart)
      (clean_take l e (Got x.message) now.one now.apart now.seats now.below k.2 n x xs (rw k.1 refl) is none)
      refl (not-closed some_receiver)

  -- where something waits the channel was not closed
  waiting-open : (t : ℕ) → has t (waits l) ≡ true → sum_by cleared_by h.replies ≡ 0
  waiting-open t k = elim now.shut [ inl z ↦ z | inr z ↦ absurd (false≢true (rw (z.2, z.3) at k)) ]

  withdraws_demand : (t : ℕ) → has t l.demands ≡ true → After (Withdraw t) (only (without_demand l t) (Withdrawn None))
  withdraws_demand t there =
      let empty : l.line ≡ [] = elim now.one [ inl k ↦ k | inr k ↦ absurd (false≢true (rw k at there)) ] in
      holds_next h l now (Withdraw t) (Withdrawn None) [] [] (without_demand l t) (moves_withdraw_demand h l now.same t None empty there) (clean_withdraw_demand l t None now.apart now.seats empty there) refl (waiting-open t (rw empty there))

  withdraws_entry : (t : ℕ) (m : T) (ms : List T) → found t l.line ≡ m ∷ ms → After (Withdraw t) (only (without_entry l t) (Withdrawn (Some m)))
  withdraws_entry t m ms is =
      let there : has t (tickets l.line) ≡ true = found-some t l.line m ms is in
      let none : l.demands ≡ [] = elim now.one [ inl k ↦ absurd (false≢true (rw k at there)) | inr k ↦ k ] in
      holds_next h l now (Withdraw t) (Withdrawn (Some m)) [] [] (without_entry l t) (moves_withdraw h l now.same t (Some m) none there) (clean_withdraw_entry l t (Some m) now.apart now.seats none there) refl (waiting-open t (rw (none, append-nil) there))

  -- where the line is empty a seal ends all that waits, and otherwise nobody's demand does
  seals : (l.senders ≡ 0 → ⊥) → After Seal (moving (seal l) Done)
  seals some_sender =
      elim now.one [
        | inl empty ↦
            same (After Seal) (moving (seal l) Done) (moving (end_all (record l { senders = 0 }) NoSendersLeft) Done) (rw (empty, under-nothing l.capacity) refl)
            (holds_end h l now n Seal Done refl refl refl NoSendersLeft 0 l.receivers refl (elim now.shut [ inl z ↦ z | inr z ↦ absurd (some_sender z.0) ]))
        | inr none ↦
            same (After Seal) (moving (seal l) Done) (only (record l { senders = 0 }) Done) (rw none refl)
            (holds_counts (longer h Seal Done [] []) l (holds_quiet h l now n Seal Done refl refl refl refl) n 0 l.receivers (λ z. refl) (λ z. z))
      ]

  drains : (xs : List (LineEntry T)) → l.line ≡ xs → (l.receivers ≡ 0 → ⊥) → After Drain (record (moving (drain l) (Drained (length l.line))) { drained = messages l.line })
  drains [] is some_receiver =
      same (After Drain) (record (moving (drain l) (Drained (length l.line))) { drained = messages l.line }) (only l (Drained 0)) (rw is refl)
      (holds_quiet h l now n Drain (Drained 0) refl refl refl refl)
  drains (x ∷ xs) is some_receiver =
      let none : l.demands ≡ [] = elim now.one [ inl k ↦ absurd (cc) | inr k ↦ k ] in
      holds_drain h l now n none (not-closed some_receiver)

  -- the last handle of a side is dropped, so that the channel was not closed
  last-open : {e : Event T} {senders receivers : ℕ} {reason : Reason} → LastCase l e senders receivers reason → sum_by cleared_by h.replies ≡ 0
  last-open (LastTx left) = elim now.shut [ inl z ↦ z | inr z ↦ absurd (let k = z.0 in omega (arith, left, k)) ]
  last-open (LastRx left) = elim now.shut [ inl z ↦ z | inr z ↦ absurd (let k = z.1 in omega (arith, left, k)) ]

  -- each event keeps what holds
  case-holds : {e : Event T} {told : StepSpec T} → StepCase l e told → After e told
  case-holds (Refuses e reason clear) = plain e (Refused reason (message_of e)) (refused-plain e reason (message_of e))
  case-holds (Replies e r c) = plain e r (reply-plain c)
  case-holds (Enters e m r s some_receiver some_sender place) = enters e m r s some_receiver place l.demands refl
  case-holds (TakesFront e x xs r some_receiver is) = takes_front e x xs r some_receiver is
  case-holds (SendWaits m some_receiver some_sender full) = waits_send m some_receiver full l.demands refl
  case-holds (RecvWaits some_receiver some_sender empty) = waits_recv some_receiver empty
  case-holds (WithdrawsDemand t there) = withdraws_demand t there
  case-holds (WithdrawsEntry t m ms is) = withdraws_entry t m ms is
  case-holds (Drains some_receiver) = drains l.line refl some_receiver
  case-holds (Recounts e senders receivers c) =
      let k = count-plain c in
      let z = count-zero c in
      holds_counts (longer h e Done [] []) l (plain e Done k) n senders receivers z.0 z.1
  case-holds (EndsAll e senders receivers reason c) =
      let k = last-plain c in
      holds_end h l now n e Done k.0 k.1 k.2 reason senders receivers k.3 (last-open c)
  case-holds (Seals some_sender) = seals some_sender
  case-holds (Closes left) = holds_close h l now n (elim now.shut [ inl z ↦ z | inr z ↦ absurd (grind (arith, nat_tests, left, z.0, z.1)) ])

  -- and so does each event that is refused for memory, or for want of a live handle
  pub told-holds : (handles : Handles) (e : Event T) (told : StepSpec T) → TellsWith handles l e told → After e told
  told-holds handles e told is =
      told_by (After e) handles l e told is (case-holds (step_case l e)) (λ reason. plain e (Refused reason (message_of e)) (refused-plain e reason (message_of e)))
