-- What a history reads of a step, case by case.
use Rattle.kanal_journal.proofs.Common.{◌≡◌, ℕ, [], ◌∷◌, Option, None, refl, sym, ◌∙◌, subst, inl, inr, cases_Bool, Reason, Line, Handles, Event, Send, CloneTx, CloneRx, DropTx, DropRx, Refusal, NoMemory, NoHandle, Reply, Got, Done, Refused, StepSpec, step, refused, SendCase, Blocking, Trying, RecvCase, BlockingRecv, LateRecv, TryingRecv, ReplyCase, Full, CountCase, ClonedTx, LastCase, LastTx, TellsWith, handles_after, has_handle, AtOnce, asked, cleared_by, sent, withdrawn_ticket}

module _ {T : Type 0} where
  -- the reply tells of no message
  abbrev pub IsPlain : Event T → Reply T → Type 0
  IsPlain e r = (sent e r ≡ []) × (asked e r ≡ []) × (withdrawn_ticket e r ≡ []) × (cleared_by r ≡ 0)

  pub refused-plain : (e : Event T) (reason : Refusal) (back : Option T) → IsPlain e (Refused reason back)
  refused-plain (Send m) reason back = (refl, refl, refl, refl)
  refused-plain e reason back = (refl, refl, refl, refl)

  pub reply-plain : {e : Event T} {r : Reply T} → ReplyCase e r → IsPlain e r
  reply-plain (Full m) = (refl, refl, refl, refl)
  reply-plain c = (refl, refl, refl, refl)

  pub count-plain : {l : Line T} {e : Event T} {senders receivers : ℕ} → CountCase l e senders receivers → IsPlain e Done
  count-plain ClonedTx = (refl, refl, refl, refl)
  count-plain c = (refl, refl, refl, refl)

  pub last-plain : {l : Line T} {e : Event T} {senders receivers : ℕ} {reason : Reason} → LastCase l e senders receivers reason → IsPlain e Done
  last-plain (LastTx one) = (refl, refl, refl, refl)
  last-plain c = (refl, refl, refl, refl)

  -- a message enters, and nothing else is told
  pub send-read : {e : Event T} {m : T} {r : Reply T} → SendCase e m r → (sent e r ≡ (m, None) ∷ []) × (asked e r ≡ []) × (withdrawn_ticket e r ≡ []) × (cleared_by r ≡ 0)
  send-read (Blocking m) = (refl, refl, refl, refl)
  send-read (Trying m) = (refl, refl, refl, refl)

  -- a message is received, and nothing else is told
  pub recv-read : {e : Event T} → RecvCase e → (m : T) → (sent e (Got m) ≡ []) × (asked e (Got m) ≡ AtOnce m ∷ []) × (withdrawn_ticket e (Got m) ≡ [])
  recv-read BlockingRecv m = (refl, refl, refl)
  recv-read LateRecv m = (refl, refl, refl)
  recv-read TryingRecv m = (refl, refl, refl)

  -- a refusal leaves the live handles as they were
  pub refused-handles : (handles : Handles) (e : Event T) (reason : Refusal) (back : Option T) → handles_after handles e (Refused reason back) ≡ handles
  refused-handles handles CloneTx reason back = refl
  refused-handles handles CloneRx reason back = refl
  refused-handles handles DropTx reason back = refl
  refused-handles handles DropRx reason back = refl
  refused-handles handles e reason back = refl

  module _ (Q : StepSpec T → Type 0) where
    -- what is the same holds, too
    pub same : (told other : StepSpec T) → told ≡ other → Q other → Q told
    same told other is k = subst Q (sym is) k

    -- what holds of the line's step and of each refusal holds of what the event tells
    pub told_by : (handles : Handles) (l : Line T) (e : Event T) (told : StepSpec T) → TellsWith handles l e told → Q (step l e) → ((reason : Refusal) → Q (refused l reason e)) → Q told
    told_by handles l e told (inl is) made else_ =
        elim (cases_Bool (has_handle handles e)) [
          | inl x ↦ same told (step l e) (is ∙ rw x refl) made
          | inr x ↦ same told (refused l NoHandle e) (is ∙ rw x refl) (else_ NoHandle)
        ]
    told_by handles l e told (inr is) made else_ = same told (refused l NoMemory e) is.2 (else_ NoMemory)
