-- What a call tells whose side has no live handle: nothing but its reply.
use Rattle.kanal_one_history.proofs.Common.{◌≡◌, ◌≤◌, ℕ, ◌+◌, false, not, cond, eqb, ◌==◌, List, [], ◌∷◌, refl, sym, ap, ◌∙◌, subst, inl, inr, arith, cases_Bool, eqb-true, false≢true, Line, raised, Event, CloneTx, CloneRx, DropTx, DropRx, NoHandle, Reply, Done, Refused, StepSpec, message_of, only, refused, step, Handles, handles_after, has_handle, made, asked, cleared_by, sent, withdrawn_ticket, LineEntry, enter, leave, Got, Tx, Rx, SendCase, Blocking, Trying, RecvCase, BlockingRecv, LateRecv, TryingRecv, ReplyCase, Full, CountCase, ClonedTx, ClonedRx, DroppedTx, DroppedRx, LastCase, LastTx, LastRx, StepCase, Refuses, Replies, Enters, TakesFront, SendWaits, RecvWaits, WithdrawsDemand, WithdrawsEntry, Drains, Recounts, EndsAll, Seals, Closes, enter-rest, step_case, has_side, IsPlain, refused-handles, refused-plain, reply-plain, Call, IsToldOn, reply_by}
use Rattle.kanal_core.specs.declared.internal.outcome.Reason.{Reason}
use Rattle.kanal_journal.proofs.Settling.{or_parts}

-- a side without a live handle counts nobody
pub nobody : (k n : ℕ) → not (k == 0) ≡ false → n ≤ k → n ≡ 0
nobody k n off h = elim (cases_Bool (k == 0)) [ inl e ↦ omega (arith, eqb-true k 0 e, h) | inr e ↦ absurd (false≢true (sym off ∙ rw e refl)) ]

raised-most : (n : ℕ) → raised n ≤ n + 1
raised-most n = elim (cases_Bool (eqb n 0)) [ inl e ↦ rw e (omega arith) | inr e ↦ rw e (omega arith) ]

module _ {T : Type 0} where
  -- no side of the line counts more than its live handles
  abbrev pub IsHeld : Handles → Line T → Type 0
  IsHeld handles l = (l.senders ≤ handles.tx) × (l.receivers ≤ handles.rx)

  -- the event tells nothing but its reply, which has no message
  pub record IsIdle (l : Line T) (e : Event T) (told : StepSpec T) : Type 0 where
    pub line : told.line ≡ l
    pub settled : told.settled ≡ []
    pub drained : told.drained ≡ []
    pub cleared : told.cleared ≡ []
    pub sends : sent e told.reply ≡ []
    pub asks : asked e told.reply ≡ []
    pub withdraws : withdrawn_ticket e told.reply ≡ []
    pub clears : cleared_by told.reply ≡ 0

  -- an event whose reply tells of no message, and that leaves the line as it was
  plain-idle : (l : Line T) (e : Event T) (r : Reply T) → IsPlain e r → IsIdle l e (only l r)
  plain-idle l e r k =
      record { line = refl; settled = refl; drained = refl; cleared = refl; sends = k.0; asks = k.1; withdraws = k.2; clears = k.3 }

  -- the side of a send, and of a receive
  send-side : (handles : Handles) {e : Event T} {m : T} {r : Reply T} → SendCase e m r → has_handle handles e ≡ has_side handles Tx
  send-side handles (Blocking m) = refl
  send-side handles (Trying m) = refl

  recv-side : (handles : Handles) {e : Event T} → RecvCase e → has_handle handles e ≡ has_side handles Rx
  recv-side handles BlockingRecv = refl
  recv-side handles LateRecv = refl
  recv-side handles TryingRecv = refl

  module _ (l : Line T) (handles : Handles) (held : IsHeld handles l) where
    -- the counts are as they were
    recounted : (e : Event T) (senders receivers : ℕ) → senders ≡ l.senders → receivers ≡ l.receivers → IsPlain e Done → IsIdle l e (only (record l { senders = senders; receivers = receivers }) Done)
    recounted e senders receivers s r k =
        record {
          line = ap (λ k. record l { senders = k; receivers = receivers }) s ∙ ap (λ k. record l { receivers = k }) r;
          settled = refl;
          drained = refl;
          cleared = refl;
          sends = k.0;
          asks = k.1;
          withdraws = k.2;
          clears = k.3;
        }

    no-sender : has_side handles Tx ≡ false → l.senders ≡ 0
    no-sender off = nobody handles.tx l.senders off held.0

    no-receiver : has_side handles Rx ≡ false → l.receivers ≡ 0
    no-receiver off = nobody handles.rx l.receivers off held.1

    count-idle : {e : Event T} {senders receivers : ℕ} → CountCase l e senders receivers → has_handle handles e ≡ false → IsIdle l e (only (record l { senders = senders; receivers = receivers }) Done)
    count-idle ClonedTx off = let z = no-sender off in recounted CloneTx _ _ (rw z refl) refl (refl, refl, refl, refl)
    count-idle ClonedRx off = let z = no-receiver off in recounted CloneRx _ _ refl (rw z refl) (refl, refl, refl, refl)
    count-idle (DroppedTx more) off = let z = no-sender off in recounted DropTx _ _ (rw z refl) refl (refl, refl, refl, refl)
    count-idle (DroppedRx more) off = let z = no-receiver off in recounted DropRx _ _ refl (rw z refl) (refl, refl, refl, refl)

    last-left : {e : Event T} {senders receivers : ℕ} {reason : Reason} → LastCase l e senders receivers reason → has_handle handles e ≡ false → ⊥
    last-left (LastTx one) off = let z = no-sender off in omega (arith, z, one)
    last-left (LastRx one) off = let z = no-receiver off in omega (arith, z, one)

    -- where its side has no live handle
    case-idle : {e : Event T} {told : StepSpec T} → StepCase l e told → has_handle handles e ≡ false → IsIdle l e told
    case-idle (Refuses e reason clear) off = plain-idle l e (Refused reason (message_of e)) (refused-plain e reason (message_of e))
    case-idle (Replies e r c) off = plain-idle l e r (reply-plain c)
    case-idle (Enters e m r s some_receiver some_sender place) off = absurd (some_sender (no-sender (sym (send-side handles s) ∙ off)))
    case-idle (TakesFront e x xs r some_receiver is) off = absurd (some_receiver (no-receiver (sym (recv-side handles r) ∙ off)))
    case-idle (SendWaits m some_receiver some_sender full) off = absurd (some_sender (no-sender off))
    case-idle (RecvWaits some_receiver some_sender empty) off = absurd (some_receiver (no-receiver off))
    case-idle (WithdrawsDemand t there) off = absurd (false≢true (sym off))
    case-idle (WithdrawsEntry t m ms is) off = absurd (false≢true (sym off))
    case-idle (Drains some_receiver) off = absurd (some_receiver (no-receiver off))
    case-idle (Recounts e senders receivers c) off = count-idle c off
    case-idle (EndsAll e senders receivers reason c) off = absurd (last-left c off)
    case-idle (Seals some_sender) off = absurd (some_sender (no-sender (or_parts _ _ off).0))
    case-idle (Closes left) off = let z = no-sender (or_parts _ _ off).0 in let y = no-receiver (or_parts _ _ off).1 in absurd (false≢true (sym left ∙ rw (z, y) refl))

    -- the line counts as many as it did, and the handles are those that were
    send-held : {e : Event T} {m : T} {r : Reply T} → SendCase e m r → IsHeld (handles_after handles e r) (enter l m).line
    send-held (Blocking m) = rw (enter-rest l m) held
    send-held (Trying m) = rw (enter-rest l m) held

    recv-held : {e : Event T} → RecvCase e → (m : T) (line : List (LineEntry T)) → IsHeld (handles_after handles e (Got m)) (record l { line = line })
    recv-held BlockingRecv m line = held
    recv-held LateRecv m line = held
    recv-held TryingRecv m line = held

    reply-held : {e : Event T} {r : Reply T} → ReplyCase e r → IsHeld (handles_after handles e r) l
    reply-held (Full m) = held
    reply-held c = held

    count-held : {e : Event T} {senders receivers : ℕ} → CountCase l e senders receivers → IsHeld (handles_after handles e Done) (record l { senders = senders; receivers = receivers })
    count-held ClonedTx = (omega (arith, raised-most l.senders, held.0), held.1)
    count-held ClonedRx = (held.0, omega (arith, raised-most l.receivers, held.1))
    count-held (DroppedTx more) = (omega (arith, held.0), held.1)
    count-held (DroppedRx more) = (held.0, omega (arith, held.1))

    last-held : {e : Event T} {senders receivers : ℕ} {reason : Reason} → LastCase l e senders receivers reason → IsHeld (handles_after handles e Done) (record l { senders = senders; receivers = receivers })
    last-held (LastTx one) = (omega arith, held.1)
    last-held (LastRx one) = (held.0, omega arith)

    -- each step keeps that no side counts more than its live handles
    case-held : {e : Event T} {told : StepSpec T} → StepCase l e told → IsHeld (handles_after handles e told.reply) told.line
    case-held (Refuses e reason clear) = subst (λ hs. IsHeld hs l) (sym (refused-handles handles e reason (message_of e))) held
    case-held (Replies e r c) = reply-held c
    case-held (Enters e m r s some_receiver some_sender place) = send-held s
    case-held (TakesFront e x xs r some_receiver is) = recv-held r x.message (leave l (x ∷ []) xs).line.line
    case-held (Recounts e senders receivers c) = count-held c
    case-held (EndsAll e senders receivers reason c) = last-held c
    case-held (Seals some_sender) = (omega arith, held.1)
    case-held (Closes left) = (omega arith, omega arith)
    case-held c = held

  -- through these handles the event tells what the line's step tells, but for a reply that says that there is none
  pub record IsAsStep (handles : Handles) (l : Line T) (e : Event T) (told : StepSpec T) : Type 0 where
    pub line : told.line ≡ (step l e).line
    pub settled : told.settled ≡ (step l e).settled
    pub drained : told.drained ≡ (step l e).drained
    pub cleared : told.cleared ≡ (step l e).cleared
    pub sends : sent e told.reply ≡ sent e (step l e).reply
    pub asks : asked e told.reply ≡ asked e (step l e).reply
    pub withdraws : withdrawn_ticket e told.reply ≡ withdrawn_ticket e (step l e).reply
    pub clears : cleared_by told.reply ≡ cleared_by (step l e).reply
    pub reply : told.reply ≡ cond (has_handle handles e) (step l e).reply (Refused NoHandle (message_of e))
    pub held : IsHeld (handles_after handles e told.reply) told.line

  pub as_step : (handles : Handles) (l : Line T) (e : Event T) → IsHeld handles l → IsAsStep handles l e (made handles l e)
  as_step handles l e held =
      elim (cases_Bool (has_handle handles e)) [
        | inl x ↦
            let is : made handles l e ≡ step l e = rw x refl in
            subst (IsAsStep handles l e) (sym is)
            (record {
              line = refl;
              settled = refl;
              drained = refl;
              cleared = refl;
              sends = refl;
              asks = refl;
              withdraws = refl;
              clears = refl;
              reply = rw x refl;
              held = case-held l handles held (step_case l e);
            })
        | inr x ↦
            let is : made handles l e ≡ refused l NoHandle e = rw x refl in
            let i = case-idle l handles held (step_case l e) x in
            let k = plain-idle l e (Refused NoHandle (message_of e)) (refused-plain e NoHandle (message_of e)) in
            subst (IsAsStep handles l e) (sym is)
            (record {
              line = sym i.line;
              settled = sym i.settled;
              drained = sym i.drained;
              cleared = sym i.cleared;
              sends = k.sends ∙ sym i.sends;
              asks = k.asks ∙ sym i.asks;
              withdraws = k.withdraws ∙ sym i.withdraws;
              clears = sym i.clears;
              reply = rw x refl;
              held = subst (λ hs. IsHeld hs l) (sym (refused-handles handles e NoHandle (message_of e))) held;
            })
      ]

  module _ (handles : Handles) (l : Line T) (c : Call T) (held : IsHeld handles l) (told : IsToldOn l c) where
    -- the reply that the event of the call is given through these handles
    pub reply_told : (made handles l c.event).reply ≡ reply_by handles c
    reply_told =
        (as_step handles l c.event held).reply
        ∙ ap (λ r. cond (has_handle handles c.event) r (Refused NoHandle (message_of c.event))) (sym (ap (λ (x : Call T). x.reply) told))

    pub held_next : IsHeld (handles_after handles c.event (reply_by handles c)) (step l c.event).line
    held_next =
        let k = as_step handles l c.event held in
        subst (λ r. IsHeld (handles_after handles c.event r) (step l c.event).line) reply_told
        (subst (λ x. IsHeld (handles_after handles c.event (made handles l c.event).reply) x) k.line k.held)
