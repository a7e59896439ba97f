-- Which messages a call put and got, by what it answered.
use Rattle.kanal_state.proofs.Common.{◌≡◌, ℕ, true, false, cond, List, [], ◌∷◌, Option, Some, None, Bool, Result, Ok, Err, refl, sym, ap, subst, inl, inr, option_to_list, Outcome, SendClosed as BySenders, ReceiveClosed as ByReceivers, ReceiveError, SendError, Event, Send, TrySend, Recv, RecvLate, TryRecv, Reply, Sent, Yes, No, Got, Nothing, Receives, ReceivesInTime, Sends, SendsInTime, TriesToReceive, TriesToSend, Finishes, HasWaited, IsReplied, asked_by, entered_by, received_after, received_by, sent_after, sent_by, timed_received_after, timed_received_by, timed_sent_after, timed_sent_by, HistoryRelations}
use Rattle.std.specs.Prelude.{IfOk}
use Rattle.kanal_core.specs.declared.internal.outcome.Outcome.TheVariants.{Taken, Given, Ended}
use Rattle.kanal_core.specs.declared.error.ReceiveErrorTimeout.{ReceiveErrorTimeout}
use Rattle.kanal_core.specs.declared.error.SendErrorTimeout.{SendErrorTimeout}
use Rattle.kanal_state.specs.Exchanges.{Replies, TellsExchanges}

module _ {T : Type 0} where
  -- which replies and outcomes read as Ok
  sent-reply : (reply : Reply T) → Ok tt ≡ sent_by reply → reply ≡ Sent
  sent-reply Sent e = refl
  sent-reply reply e = absurd (cc)

  sent-outcome : (outcome : Outcome T) → Ok tt ≡ sent_after outcome → outcome ≡ Taken
  sent-outcome Taken e = refl
  sent-outcome (Ended ByReceivers x) e = absurd (cc)
  sent-outcome outcome e = absurd (cc)

  timed-sent-reply : (reply : Reply T) → Ok tt ≡ timed_sent_by reply → reply ≡ Sent
  timed-sent-reply Sent e = refl
  timed-sent-reply reply e = absurd (cc)

  timed-sent-outcome : (outcome : Outcome T) → Ok tt ≡ timed_sent_after outcome → outcome ≡ Taken
  timed-sent-outcome Taken e = refl
  timed-sent-outcome (Ended ByReceivers x) e = absurd (cc)
  timed-sent-outcome outcome e = absurd (cc)

  yes-reply : (reply : Reply T) → Ok true ≡ entered_by reply → reply ≡ Yes
  yes-reply Yes e = refl
  yes-reply reply e = absurd (cc)

  no-reply : (reply : Reply T) → Ok false ≡ entered_by reply → (x : T) × (reply ≡ No x)
  no-reply (No x) e = (x, refl)
  no-reply reply e = absurd (cc)

  nothing-reply : (reply : Reply T) → Ok None ≡ asked_by reply → reply ≡ Nothing
  nothing-reply Nothing e = refl
  nothing-reply reply e = absurd (cc)

  module _ (m : T) where
    same-message : {X : Type 0} (f : T → X) (x : T) → m ≡ x → f x ≡ f m
    same-message f x e = ap f (sym e)

    got-reply : (reply : Reply T) → Ok m ≡ received_by reply → reply ≡ Got m
    got-reply (Got x) e = same-message Got x (cc)
    got-reply reply e = absurd (cc)

    got-outcome : (outcome : Outcome T) → Ok m ≡ received_after outcome → outcome ≡ Given m
    got-outcome (Given x) e = same-message Given x (cc)
    got-outcome (Ended BySenders x) e = absurd (cc)
    got-outcome outcome e = absurd (cc)

    timed-got-reply : (reply : Reply T) → Ok m ≡ timed_received_by reply → reply ≡ Got m
    timed-got-reply (Got x) e = same-message Got x (cc)
    timed-got-reply reply e = absurd (cc)

    timed-got-outcome : (outcome : Outcome T) → Ok m ≡ timed_received_after outcome → outcome ≡ Given m
    timed-got-outcome (Given x) e = same-message Given x (cc)
    timed-got-outcome (Ended BySenders x) e = absurd (cc)
    timed-got-outcome outcome e = absurd (cc)

    came-reply : (reply : Reply T) → Ok (Some m) ≡ asked_by reply → reply ≡ Got m
    came-reply (Got x) e = same-message Got x (cc)
    came-reply reply e = absurd (cc)

module _ {T P : Type 0} (w : HistoryRelations T P) (exchanges : P → P → List T → List T → Type 0) (tells : TellsExchanges w exchanges) (old new : P) where
  -- a call with its reply as the answer
  with-reply : {R : Type 0} (event : Event T) (read : Reply T → R) (answer : R) (reply : Reply T) → (c : IsReplied w old new event read answer) → c.call.reply ≡ reply → Replies w old new event reply
  with-reply event read answer reply c r = record { call = c.call; made = c.made; asked = c.asked; reads = sym r; told = c.told }

  module _ {R : Type 0} (read : Reply T → R) (ended : Outcome T → R) (refused answer : R) (lacking : answer ≡ refused → ⊥) where
    -- a send that waits where it must, and whose answer says that it was made
    put-finishes : (m : T) → ((reply : Reply T) → answer ≡ read reply → reply ≡ Sent) → ((outcome : Outcome T) → answer ≡ ended outcome → outcome ≡ Taken)
        → Finishes w old new (Send m) read ended refused answer → exchanges old new (m ∷ []) []
    put-finishes m by_reply by_outcome (inl a) = tells.put_at_once old new m (with-reply (Send m) read answer Sent a.replied (by_reply a.replied.call.reply a.replied.reads))
    put-finishes m by_reply by_outcome (inr (inl (outcome, waited, is))) = tells.put_waiting old new m (subst (λ o. HasWaited w old new (Send m) o) (by_outcome outcome is) waited)
    put-finishes m by_reply by_outcome (inr (inr l)) = absurd (lacking l.1)

    -- a receive that waits where it must, and whose answer is this message
    got-finishes : (m : T) → ((reply : Reply T) → answer ≡ read reply → reply ≡ Got m) → ((outcome : Outcome T) → answer ≡ ended outcome → outcome ≡ Given m)
        → Finishes w old new Recv read ended refused answer → exchanges old new [] (m ∷ [])
    got-finishes m by_reply by_outcome (inl a) = tells.got_at_once old new m (with-reply Recv read answer (Got m) a.replied (by_reply a.replied.call.reply a.replied.reads))
    got-finishes m by_reply by_outcome (inr (inl (outcome, waited, is))) = tells.got_waiting old new m (subst (λ o. HasWaited w old new Recv o) (by_outcome outcome is) waited)
    got-finishes m by_reply by_outcome (inr (inr l)) = absurd (lacking l.1)

  -- a send that was answered Ok put its message, whether it waited or not
  pub sends_put : (m : T) (answer : Result (Unit {0}) SendError) → Sends w old new m answer → IfOk answer (λ _. exchanges old new (m ∷ []) [])
  sends_put m (Err e) s = tt
  sends_put m (Ok u) s = put-finishes sent_by sent_after _ (Ok u) (λ e. cc) m sent-reply sent-outcome s

  -- a receive that was answered Ok got the message, whether it waited or not
  pub receives_got : (answer : Result T ReceiveError) → Receives w old new answer → IfOk answer (λ m. exchanges old new [] (m ∷ []))
  receives_got (Err e) r = tt
  receives_got (Ok m) r = got-finishes received_by received_after _ (Ok m) (λ e. cc) m (got-reply m) (got-outcome m) r

  -- a send that doesn't wait put its message where it entered
  pub tries_put : (m : T) (answer : Result Bool SendError) → TriesToSend w old new m answer → IfOk answer (λ entered. exchanges old new (cond entered (m ∷ []) []) [])
  tries_put m (Err e) s = tt
  tries_put m (Ok true) (inl c) = tells.put_by_trying old new m (with-reply (TrySend m) entered_by (Ok true) Yes c (yes-reply c.call.reply c.reads))
  tries_put m (Ok false) (inl c) = let no = no-reply c.call.reply c.reads in tells.put_nothing old new m no.0 (with-reply (TrySend m) entered_by (Ok false) (No no.0) c no.1)
  tries_put m (Ok b) (inr l) = absurd (cc (l.1))

  -- a receive that doesn't wait got the message that it answers
  pub tries_got : (answer : Result (Option T) ReceiveError) → TriesToReceive w old new answer → IfOk answer (λ came. exchanges old new [] (option_to_list came))
  tries_got (Err e) c = tt
  tries_got (Ok (Some m)) c = tells.got_by_trying old new m (with-reply TryRecv asked_by (Ok (Some m)) (Got m) c (came-reply m c.call.reply c.reads))
  tries_got (Ok None) c = tells.got_nothing old new (with-reply TryRecv asked_by (Ok None) Nothing c (nothing-reply c.call.reply c.reads))

  -- a send with a deadline, too
  pub sends_in_time_put : (answered : ℕ → Type 0) (duration : ℕ) (m : T) (answer : Result (Unit {0}) SendErrorTimeout)
      → SendsInTime w old new answered duration m answer → IfOk answer (λ _. exchanges old new (m ∷ []) [])
  sends_in_time_put answered duration m (Err e) s = tt
  sends_in_time_put answered duration m (Ok u) (moment, is, inl (less, inl s)) =
      put-finishes timed_sent_by timed_sent_after _ (Ok u) (λ e. cc) m timed-sent-reply timed-sent-outcome s
  sends_in_time_put answered duration m (Ok u) (moment, is, inl (less, inr late)) = absurd (cc (late.1))
  sends_in_time_put answered duration m (Ok u) (moment, is, inr out) = absurd (cc (out.2))

  -- and a receive with a deadline
  pub receives_in_time_got : (answered : ℕ → Type 0) (duration : ℕ) (answer : Result T ReceiveErrorTimeout)
      → ReceivesInTime w old new answered duration answer → IfOk answer (λ m. exchanges old new [] (m ∷ []))
  receives_in_time_got answered duration (Err e) r = tt
  receives_in_time_got answered duration (Ok m) (moment, is, inl (less, inl (inl r))) =
      got-finishes timed_received_by timed_received_after _ (Ok m) (λ e. cc) m (timed-got-reply m) (timed-got-outcome m) r
  receives_in_time_got answered duration (Ok m) (moment, is, inl (less, inl (inr late))) = absurd (cc (late.1))
  receives_in_time_got answered duration (Ok m) (moment, is, inl (less, inr late)) =
      tells.got_late old new m (with-reply RecvLate timed_received_by (Ok m) (Got m) late.replied (timed-got-reply m late.replied.call.reply late.replied.reads))
  receives_in_time_got answered duration (Ok m) (moment, is, inr out) = absurd (cc (out.2))
