-- The cases of a step, as a type: a law has a clause a case, and the cases that it doesn't tell apart share one.
use Rattle.kanal_events.proofs.Common.{◌≡◌, ℕ, ◌-◌, Bool, true, false, eqb, ◌==◌, ◌&&◌, List, [], ◌∷◌, ◌++◌, length, Option, Some, None, refl, sym, subst, inl, inr, cases_Bool, eqb-true, eqb-false, Reason, LineEntry, Line, bare, last_word, messages, has, has_place, found, last_count, raised, serve, enter, leave, drain, end_all, close, cleared, wait_send, wait_recv, without_entry, without_demand, seal, Event, Send, TrySend, Recv, RecvLate, TryRecv, Drain, Withdraw, CloneTx, CloneRx, DropTx, DropRx, Seal, Close, Asks, Terminated, Sent, Waits, Yes, No, Got, Nothing, Drained, Withdrawn, Done, Cleared, Number, Flag, Refused, StepSpec, only, moving, offer, take, take_front, nothing_there, wait, withdraw, seal_line, shut, take_line, cloned, answer, message_of, step, refused, is_no_memory}
use Rattle.kanal_core.specs.declared.internal.outcome.Reason.TheVariants.{SendClosed as NoSendersLeft, ReceiveClosed as NoReceiversLeft}
use Rattle.kanal_events.specs.declared.event.Side.{Side}
use Rattle.kanal_events.specs.declared.event.Ask.{Ask}
use Rattle.kanal_events.specs.declared.event.Ask.TheVariants.{IsBounded, Len, IsEmpty, IsFull, Capacity, ReceiverCount, SenderCount, IsClosed, IsDisconnected}
use Rattle.kanal_events.specs.declared.event.Refusal.{Refusal}
use Rattle.kanal_events.specs.declared.event.Refusal.TheVariants.{Closed as ByClosed, ReceiveClosed as NoReceiver, Sealed as BySeal, SendClosed as NoSender, Timeout, TooMany, CloseError, NotWaiting}
use Rattle.kanal_events.specs.declared.event.Reply.{Reply}

module _ {T : Type 0} where
  -- a send with its message, and its reply where that enters
  pub data SendCase : Event T → T → Reply T → Type 0 where
    Blocking : (m : T) → SendCase (Send m) m Sent
    Trying : (m : T) → SendCase (TrySend m) m Yes

  -- a receive
  pub data RecvCase : Event T → Type 0 where
    BlockingRecv : RecvCase Recv
    LateRecv : RecvCase RecvLate
    TryingRecv : RecvCase TryRecv

  -- an event that changes nothing, with its reply
  pub data ReplyCase : Event T → Reply T → Type 0 where
    Full : (m : T) → ReplyCase (TrySend m) (No m)
    Empty : ReplyCase TryRecv Nothing
    Counted : (side : Side) (ask : Ask) (n : ℕ) → ReplyCase (Asks side ask) (Number n)
    Answered : (side : Side) (ask : Ask) (b : Bool) → ReplyCase (Asks side ask) (Flag b)
    AtEnd : (b : Bool) → ReplyCase Terminated (Flag b)

  -- a handle was cloned, or dropped while others are left: the counts after it
  pub data CountCase (l : Line T) : Event T → ℕ → ℕ → Type 0 where
    ClonedTx : CountCase l CloneTx (raised l.senders) l.receivers
    ClonedRx : CountCase l CloneRx l.senders (raised l.receivers)
    DroppedTx : (l.senders ≡ 1 → ⊥) → CountCase l DropTx (l.senders - 1) l.receivers
    DroppedRx : (l.receivers ≡ 1 → ⊥) → CountCase l DropRx l.senders (l.receivers - 1)

  -- the last handle of a side was dropped: the counts after it, and why all that waits ends
  pub data LastCase (l : Line T) : Event T → ℕ → ℕ → Reason → Type 0 where
    LastTx : l.senders ≡ 1 → LastCase l DropTx 0 l.receivers NoSendersLeft
    LastRx : l.receivers ≡ 1 → LastCase l DropRx l.senders 0 NoReceiversLeft

  -- what an event tells, case by case
  pub data StepCase (l : Line T) : Event T → StepSpec T → Type 0 where
    Refuses : (e : Event T) (reason : Refusal) → is_no_memory (Refused reason (message_of e)) ≡ false → StepCase l e (refused l reason e)
    Replies : (e : Event T) (r : Reply T) → ReplyCase e r → StepCase l e (only l r)
    Enters : (e : Event T) (m : T) (r : Reply T) → SendCase e m r → (l.receivers ≡ 0 → ⊥) → (l.senders ≡ 0 → ⊥) → has_place l ≡ true → StepCase l e (moving (enter l m) r)
    TakesFront : (e : Event T) (x : LineEntry T) (xs : List (LineEntry T)) → RecvCase e → (l.receivers ≡ 0 → ⊥) → l.line ≡ x ∷ xs → StepCase l e (moving (leave l (x ∷ []) xs) (Got x.message))
    SendWaits : (m : T) → (l.receivers ≡ 0 → ⊥) → (l.senders ≡ 0 → ⊥) → has_place l ≡ false → StepCase l (Send m) (only (wait_send l m) (Waits l.next))
    RecvWaits : (l.receivers ≡ 0 → ⊥) → (l.senders ≡ 0 → ⊥) → l.line ≡ [] → StepCase l Recv (only (wait_recv l) (Waits l.next))
    WithdrawsDemand : (t : ℕ) → has t l.demands ≡ true → StepCase l (Withdraw t) (only (without_demand l t) (Withdrawn None))
    WithdrawsEntry : (t : ℕ) (m : T) (ms : List T) → found t l.line ≡ m ∷ ms → StepCase l (Withdraw t) (only (without_entry l t) (Withdrawn (Some m)))
    Drains : (l.receivers ≡ 0 → ⊥) → StepCase l Drain (record (moving (drain l) (Drained (length l.line))) { drained = messages l.line })
    Recounts : (e : Event T) (senders receivers : ℕ) → CountCase l e senders receivers → StepCase l e (only (record l { senders = senders; receivers = receivers }) Done)
    EndsAll : (e : Event T) (senders receivers : ℕ) (reason : Reason) → LastCase l e senders receivers reason → StepCase l e (moving (end_all (record l { senders = senders; receivers = receivers }) reason) Done)
    Seals : (l.senders ≡ 0 → ⊥) → StepCase l Seal (moving (seal l) Done)
    Closes : (eqb l.senders 0 && eqb l.receivers 0) ≡ false → StepCase l Close (record (moving (close l) (Cleared (length (cleared l)))) { cleared = cleared l })

  -- where a count was 0 it stays 0
  pub count-zero : {l : Line T} {e : Event T} {senders receivers : ℕ} → CountCase l e senders receivers → (l.senders ≡ 0 → senders ≡ 0) × (l.receivers ≡ 0 → receivers ≡ 0)
  count-zero ClonedTx = (λ z. rw z refl, λ z. z)
  count-zero ClonedRx = (λ z. z, λ z. rw z refl)
  count-zero (DroppedTx more) = (λ z. rw z refl, λ z. z)
  count-zero (DroppedRx more) = (λ z. z, λ z. rw z refl)

  serve-rest : (old : Line T) (line : List (LineEntry T)) (ds : List ℕ) → (serve old line ds).line ≡ record old { line = (serve old line ds).line.line; demands = (serve old line ds).line.demands }
  serve-rest old line [] = refl
  serve-rest old [] (d ∷ ds) = refl
  serve-rest old (e ∷ es) (d ∷ ds) = serve-rest old es ds

  -- a message that enters changes the line and the demands alone
  pub enter-rest : (l : Line T) (m : T) → (enter l m).line ≡ record l { line = (enter l m).line.line; demands = (enter l m).line.demands }
  enter-rest l m = serve-rest l (l.line ++ bare m ∷ []) l.demands

  -- what a refused send hands back is its message
  back : {e : Event T} {m : T} {r : Reply T} → SendCase e m r → Some m ≡ message_of e
  back (Blocking m) = refl
  back (Trying m) = refl

  late : {e : Event T} → RecvCase e → None ≡ message_of e
  late BlockingRecv = refl
  late LateRecv = refl
  late TryingRecv = refl

  module _ (l : Line T) where
    to : (e : Event T) (told other : StepSpec T) → told ≡ other → StepCase l e other → StepCase l e told
    to e told other is c = subst (StepCase l e) (sym is) c

    refuses : (e : Event T) (reason : Refusal) (given : Option T) → given ≡ message_of e → is_no_memory (Refused reason (message_of e)) ≡ false → StepCase l e (only l (Refused reason given))
    refuses e reason given is clear = subst (λ b. StepCase l e (only l (Refused reason b))) (sym is) (Refuses e reason clear)

    offers : (e : Event T) (m : T) (r : Reply T) (otherwise : StepSpec T) → SendCase e m r → ((l.receivers ≡ 0 → ⊥) → (l.senders ≡ 0 → ⊥) → has_place l ≡ false → StepCase l e otherwise) → StepCase l e (offer l m r otherwise)
    offers e m r otherwise s k =
        elim (cases_Bool (eqb l.receivers 0)) [
          | inl x ↦
              elim (cases_Bool (eqb l.senders 0)) [
                | inl y ↦ to e (offer l m r otherwise) (only l (Refused ByClosed (Some m))) (rw (x, y) refl) (refuses e ByClosed (Some m) (back s) refl)
                | inr y ↦ to e (offer l m r otherwise) (only l (Refused NoReceiver (Some m))) (rw (x, y) refl) (refuses e NoReceiver (Some m) (back s) refl)
              ]
          | inr x ↦
              elim (cases_Bool (eqb l.senders 0)) [
                | inl y ↦ to e (offer l m r otherwise) (only l (Refused BySeal (Some m))) (rw (x, y) refl) (refuses e BySeal (Some m) (back s) refl)
                | inr y ↦
                    elim (cases_Bool (has_place l)) [
                      | inl z ↦ to e (offer l m r otherwise) (moving (enter l m) r) (rw (x, y, z) refl) (Enters e m r s (eqb-false l.receivers 0 x) (eqb-false l.senders 0 y) z)
                      | inr z ↦ to e (offer l m r otherwise) otherwise (rw (x, y, z) refl) (k (eqb-false l.receivers 0 x) (eqb-false l.senders 0 y) z)
                    ]
              ]
        ]

    takes : (e : Event T) (otherwise : StepSpec T) → RecvCase e → ((l.receivers ≡ 0 → ⊥) → l.line ≡ [] → StepCase l e otherwise) → StepCase l e (take l otherwise)
    takes e otherwise r k =
        elim (cases_Bool (eqb l.receivers 0)) [
          | inl x ↦ to e (take l otherwise) (only l (Refused ByClosed None)) (rw x refl) (refuses e ByClosed None (late r) refl)
          | inr x ↦ to e (take l otherwise) (take_front l l.line otherwise) (rw x refl) (front l.line refl (eqb-false l.receivers 0 x))
        ]
      where
        front : (xs : List (LineEntry T)) → l.line ≡ xs → (l.receivers ≡ 0 → ⊥) → StepCase l e (take_front l xs otherwise)
        front [] is some_receiver = k some_receiver is
        front (x ∷ xs) is some_receiver = TakesFront e x xs r some_receiver is

    nothing : (e : Event T) (otherwise : StepSpec T) → RecvCase e → ((l.senders ≡ 0 → ⊥) → StepCase l e otherwise) → StepCase l e (nothing_there l otherwise)
    nothing e otherwise r k =
        elim (cases_Bool (eqb l.senders 0)) [
          | inl x ↦ to e (nothing_there l otherwise) (only l (Refused NoSender None)) (rw x refl) (refuses e NoSender None (late r) refl)
          | inr x ↦ to e (nothing_there l otherwise) otherwise (rw x refl) (k (eqb-false l.senders 0 x))
        ]

    waits : (e : Event T) (new : Line T) (given : Option T) → given ≡ message_of e → StepCase l e (only new (Waits l.next)) → StepCase l e (wait l new given)
    waits e new given is c =
        elim (cases_Bool (eqb l.next last_word)) [
          | inl x ↦ to e (wait l new given) (only l (Refused TooMany given)) (rw x refl) (refuses e TooMany given is refl)
          | inr x ↦ to e (wait l new given) (only new (Waits l.next)) (rw x refl) c
        ]

    withdraws : (t : ℕ) (ms : List T) → found t l.line ≡ ms → StepCase l (Withdraw t) (withdraw l t ms)
    withdraws t [] is =
        elim (cases_Bool (has t l.demands)) [
          | inl x ↦ to (Withdraw t) (withdraw l t []) (only (without_demand l t) (Withdrawn None)) (rw x refl) (WithdrawsDemand t x)
          | inr x ↦ to (Withdraw t) (withdraw l t []) (refused l NotWaiting (Withdraw t)) (rw x refl) (Refuses (Withdraw t) NotWaiting refl)
        ]
    withdraws t (m ∷ ms) is = WithdrawsEntry t m ms is

    clones : (e : Event T) (count senders receivers : ℕ) → message_of e ≡ None → CountCase l e senders receivers → StepCase l e (cloned l count (record l { senders = senders; receivers = receivers }))
    clones e count senders receivers is c =
        let new = record l { senders = senders; receivers = receivers } in
        elim (cases_Bool (eqb count last_count)) [
          | inl x ↦ to e (cloned l count new) (only l (Refused TooMany None)) (rw x refl) (refuses e TooMany None (sym is) refl)
          | inr x ↦ to e (cloned l count new) (only new Done) (rw x refl) (Recounts e senders receivers c)
        ]

    drops_tx : StepCase l DropTx (step l DropTx)
    drops_tx =
        elim (cases_Bool (eqb l.senders 1)) [
          | inl x ↦ to DropTx (step l DropTx) (moving (end_all (record l { senders = 0 }) NoSendersLeft) Done) (rw x refl) (EndsAll DropTx 0 l.receivers NoSendersLeft (LastTx (eqb-true l.senders 1 x)))
          | inr x ↦ to DropTx (step l DropTx) (only (record l { senders = l.senders - 1 }) Done) (rw x refl) (Recounts DropTx (l.senders - 1) l.receivers (DroppedTx (eqb-false l.senders 1 x)))
        ]

    drops_rx : StepCase l DropRx (step l DropRx)
    drops_rx =
        elim (cases_Bool (eqb l.receivers 1)) [
          | inl x ↦ to DropRx (step l DropRx) (moving (end_all (record l { receivers = 0 }) NoReceiversLeft) Done) (rw x refl) (EndsAll DropRx l.senders 0 NoReceiversLeft (LastRx (eqb-true l.receivers 1 x)))
          | inr x ↦ to DropRx (step l DropRx) (only (record l { receivers = l.receivers - 1 }) Done) (rw x refl) (Recounts DropRx l.senders (l.receivers - 1) (DroppedRx (eqb-false l.receivers 1 x)))
        ]

    seals : StepCase l Seal (seal_line l)
    seals =
        elim (cases_Bool (eqb l.senders 0)) [
          | inl x ↦ to Seal (seal_line l) (refused l CloseError Seal) (rw x refl) (Refuses Seal CloseError refl)
          | inr x ↦ to Seal (seal_line l) (moving (seal l) Done) (rw x refl) (Seals (eqb-false l.senders 0 x))
        ]

    closes : StepCase l Close (shut l)
    closes =
        elim (cases_Bool (eqb l.senders 0 && eqb l.receivers 0)) [
          | inl x ↦ to Close (shut l) (refused l CloseError Close) (rw x refl) (Refuses Close CloseError refl)
          | inr x ↦ to Close (shut l) (record (moving (close l) (Cleared (length (cleared l)))) { cleared = cleared l }) (rw x refl) (Closes x)
        ]

    drains : StepCase l Drain (take_line l)
    drains =
        elim (cases_Bool (eqb l.receivers 0)) [
          | inl x ↦ to Drain (take_line l) (refused l ByClosed Drain) (rw x refl) (Refuses Drain ByClosed refl)
          | inr x ↦ to Drain (take_line l) (record (moving (drain l) (Drained (length l.line))) { drained = messages l.line }) (rw x refl) (Drains (eqb-false l.receivers 0 x))
        ]

    answers : (side : Side) (ask : Ask) → ReplyCase (Asks side ask) (answer l side ask)
    answers side IsBounded = Answered side IsBounded _
    answers side Len = Counted side Len _
    answers side IsEmpty = Answered side IsEmpty _
    answers side IsFull = Answered side IsFull _
    answers side Capacity = Counted side Capacity _
    answers side ReceiverCount = Counted side ReceiverCount _
    answers side SenderCount = Counted side SenderCount _
    answers side IsClosed = Answered side IsClosed _
    answers side IsDisconnected = Answered side IsDisconnected _

    -- what the step of an event tells is one of the cases
    pub step_case : (e : Event T) → StepCase l e (step l e)
    step_case (Send m) = offers (Send m) m Sent (wait l (wait_send l m) (Some m)) (Blocking m) (λ r s full. waits (Send m) (wait_send l m) (Some m) refl (SendWaits m r s full))
    step_case (TrySend m) = offers (TrySend m) m Yes (only l (No m)) (Trying m) (λ r s full. Replies (TrySend m) (No m) (Full m))
    step_case Recv = takes Recv (nothing_there l (wait l (wait_recv l) None)) BlockingRecv (λ r empty. nothing Recv (wait l (wait_recv l) None) BlockingRecv (λ s. waits Recv (wait_recv l) None refl (RecvWaits r s empty)))
    step_case RecvLate = takes RecvLate (only l (Refused Timeout None)) LateRecv (λ r empty. Refuses RecvLate Timeout refl)
    step_case TryRecv = takes TryRecv (nothing_there l (only l Nothing)) TryingRecv (λ r empty. nothing TryRecv (only l Nothing) TryingRecv (λ s. Replies TryRecv Nothing Empty))
    step_case Drain = drains
    step_case (Withdraw t) = withdraws t (found t l.line) refl
    step_case CloneTx = clones CloneTx l.senders (raised l.senders) l.receivers refl ClonedTx
    step_case CloneRx = clones CloneRx l.receivers l.senders (raised l.receivers) refl ClonedRx
    step_case DropTx = drops_tx
    step_case DropRx = drops_rx
    step_case Seal = seals
    step_case Close = closes
    step_case (Asks side ask) = Replies (Asks side ask) (answer l side ask) (answers side ask)
    step_case Terminated = Replies Terminated (Flag ((l.senders == 0) && (length l.line == 0))) (AtEnd _)

  reply-found : {e : Event T} {r : Reply T} → ReplyCase e r → is_no_memory r ≡ false
  reply-found (Full m) = refl
  reply-found c = refl

  send-found : {e : Event T} {m : T} {r : Reply T} → SendCase e m r → is_no_memory r ≡ false
  send-found (Blocking m) = refl
  send-found (Trying m) = refl

  case-found : {l : Line T} {e : Event T} {told : StepSpec T} → StepCase l e told → is_no_memory told.reply ≡ false
  case-found (Refuses e reason clear) = clear
  case-found (Replies e r c) = reply-found c
  case-found (Enters e m r s some_receiver some_sender place) = send-found s
  case-found c = refl

  -- no step says that there was no memory
  pub step_found : (l : Line T) (e : Event T) → is_no_memory (step l e).reply ≡ false
  step_found l e = case-found (step_case l e)
