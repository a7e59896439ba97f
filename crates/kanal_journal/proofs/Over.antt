-- Once a receive was told that nothing will come, each later one is told so.
use Rattle.kanal_journal.proofs.Common.{◌≡◌, ℕ, ◌⊎◌, true, false, eqb, List, [], ◌∷◌, ◌++◌, Option, None, refl, sym, ap, ◌∙◌, subst, inl, inr, append_assoc, append-nil, cases_Bool, false≢true, eqb-true, eqb-false, LineEntry, Line, last_word, under, wait_recv, Handles, Rx, Event, Recv, TryRecv, NoHandle, Reply, Waits, Nothing, StepSpec, IsWait, only, take_told, take_front, nothing_there, wait, step, refused, StepCase, Enters, TakesFront, SendWaits, WithdrawsEntry, Drains, EndsAll, Closes, step_case, Account, TellsWith, Leads, AccountStep, opening_account, has_handle, has_side, is_receive, tells_end, tells_end_or_no_handle, AreOver, StaysOver, under-nothing}
use Rattle.kanal_journal.proofs.Reading.{told_by}
use Rattle.kanal_journal.proofs.Standing.{told-zero}

module _ {T : Type 0} where
  -- nothing will come: no receiver is left, or no sender and no message
  abbrev IsOver : Line T → Type 0
  IsOver l = (l.receivers ≡ 0) ⊎ ((l.senders ≡ 0) × (l.line ≡ []))

  module _ (l : Line T) (hs : Handles) where
    -- a receive on a line with nothing in it and no sender
    take-over : (otherwise : StepSpec T) → IsOver l → (told : StepSpec T) → told ≡ take_told l (nothing_there l otherwise) → tells_end_or_no_handle told.reply ≡ true
    take-over otherwise (inl none) told is = rw (is, none) refl
    take-over otherwise (inr over) told is =
        elim (cases_Bool (eqb l.receivers 0)) [
          | inl x ↦ rw (is, x) refl
          | inr x ↦ rw (is, x, over.1, over.0) refl
        ]

    refused-over : (e : Event T) (told : StepSpec T) → told ≡ refused l NoHandle e → tells_end_or_no_handle told.reply ≡ true
    refused-over e told is = rw is refl

    -- a reply that waits is no end
    waits-on : (r : Reply T) → IsWait r → tells_end_or_no_handle r ≡ false
    waits-on (Waits t) w = refl
    waits-on r w = elim w [ ]

    -- each receive is told that nothing will come
    pub over-told : (e : Event T) (told : StepSpec T) → IsOver l → TellsWith hs l e told → is_receive e ≡ true → tells_end_or_no_handle told.reply ≡ true
    over-told Recv told over (inl is) p =
        elim (cases_Bool (has_side hs Rx)) [
          | inl x ↦ take-over (wait l (wait_recv l) None) over told (is ∙ rw x refl)
          | inr x ↦ refused-over Recv told (is ∙ rw x refl)
        ]
    over-told Recv told over (inr is) p =
        let k = take-over (wait l (wait_recv l) None) over (step l Recv) refl in
        absurd (false≢true (sym (waits-on (step l Recv).reply is.1) ∙ k))
    over-told TryRecv told over (inl is) p =
        elim (cases_Bool (has_side hs Rx)) [
          | inl x ↦ take-over (only l Nothing) over told (is ∙ rw x refl)
          | inr x ↦ refused-over TryRecv told (is ∙ rw x refl)
        ]
    over-told TryRecv told over (inr is) p = absurd is.1
    over-told e told over is p = absurd (false≢true p)

    -- a receive that is told so finds it so
    ends-over : (otherwise : StepSpec T) → tells_end otherwise.reply ≡ false → tells_end (take_told l (nothing_there l otherwise)).reply ≡ true → IsOver l
    ends-over otherwise not_end end =
        elim (cases_Bool (eqb l.receivers 0)) [
          | inl x ↦ inl (eqb-true l.receivers 0 x)
          | inr x ↦ go l.line refl (eqb-false l.receivers 0 x) (rw x at end)
        ]
      where
        go : (xs : List (LineEntry T)) → l.line ≡ xs → (l.receivers ≡ 0 → ⊥) → tells_end (take_front l xs (nothing_there l otherwise)).reply ≡ true → IsOver l
        go (x ∷ xs) is some_receiver k = absurd (false≢true k)
        go [] is some_receiver k =
            elim (cases_Bool (eqb l.senders 0)) [
              | inl y ↦ inr (eqb-true l.senders 0 y, is)
              | inr y ↦ absurd (false≢true (sym not_end ∙ rw y at k))
            ]

  -- after an event on an empty line without a sender it is still empty
  still-empty : {l : Line T} {e : Event T} {told : StepSpec T} → l.line ≡ [] → l.senders ≡ 0 → StepCase l e told → told.line.line ≡ []
  still-empty empty none (Enters e m r s some_receiver some_sender place) = absurd (some_sender none)
  still-empty empty none (TakesFront e x xs r some_receiver is) = absurd (cc)
  still-empty empty none (SendWaits m some_receiver some_sender full) = absurd (some_sender none)
  still-empty empty none (WithdrawsEntry t m ms is) = rw empty refl
  still-empty empty none (Drains some_receiver) = refl
  still-empty {l} empty none (EndsAll e senders receivers reason c) = ap (under l.capacity) empty ∙ under-nothing l.capacity
  still-empty empty none (Closes left) = refl
  still-empty empty none c = empty

  -- what is over stays so
  over-next : (l : Line T) (hs : Handles) (e : Event T) (told : StepSpec T) → IsOver l → TellsWith hs l e told → IsOver told.line
  over-next l hs e told (inl none) is = inl ((told-zero l hs e told is).1 none)
  over-next l hs e told (inr over) is =
      inr ((told-zero l hs e told is).0 over.0, told_by (λ t. t.line.line ≡ []) hs l e told is (still-empty over.1 over.0 (step_case l e)) (λ reason. over.1))

  -- the replies that come to these
  record Told_over (a b : Account T) (events : List (Event T)) : Type 0 where
    replies : List (Reply T)
    is : b.replies ≡ a.replies ++ replies
    over : AreOver events replies

  more-replies : (a b : Account T) (e : Event T) (t : AccountStep a e b) (rs all : List (Reply T)) → all ≡ b.replies ++ rs → all ≡ a.replies ++ (t.0.reply ∷ rs)
  more-replies a b e t rs all is = is ∙ (ap (λ x. x.replies ++ rs) t.2 ∙ append_assoc a.replies (t.0.reply ∷ []) rs)

  over-along : (a b : Account T) (events : List (Event T)) → IsOver a.line → Leads a events b → Told_over a b events
  over-along a b [] over l = record { replies = []; is = ap (λ x. x.replies) l ∙ sym (append-nil a.replies); over = tt }
  over-along a b (e ∷ es) over l =
      let told = l.1.0 in
      let P : Account T → Type 0 = λ x. IsOver x.line in
      let rest = over-along l.0 b es (subst P (sym l.1.2) (over-next a.line a.handles e told over l.1.1)) l.2 in
      record { replies = told.reply ∷ rest.replies; is = more-replies a l.0 e l.1 rest.replies b.replies rest.is; over = (over-told a.line a.handles e told over l.1.1, rest.over) }

  -- a receive that is told of an end finds that nothing will come
  end-over : (l : Line T) (hs : Handles) (e : Event T) (told : StepSpec T) → TellsWith hs l e told → is_receive e ≡ true → tells_end told.reply ≡ true → IsOver l
  end-over l hs e told (inr is) p end = absurd (false≢true (rw is.2 at end))
  end-over l hs e told (inl is) p end =
      elim (cases_Bool (has_handle hs e)) [
        | inr x ↦ let same : told ≡ refused l NoHandle e = is ∙ rw x refl in absurd (false≢true (rw same at end))
        | inl x ↦ let same : told ≡ step l e = is ∙ rw x refl in of-step e p (rw same at end)
      ]
    where
      wait-no-end : tells_end (wait l (wait_recv l) None).reply ≡ false
      wait-no-end = elim (cases_Bool (eqb l.next last_word)) [ inl x ↦ rw x refl | inr x ↦ rw x refl ]

      of-step : (e : Event T) → is_receive e ≡ true → tells_end (step l e).reply ≡ true → IsOver l
      of-step Recv p end = ends-over l hs (wait l (wait_recv l) None) wait-no-end end
      of-step TryRecv p end = ends-over l hs (only l Nothing) refl end
      of-step e p end = absurd (false≢true p)

  record Told_final (a b : Account T) (events : List (Event T)) : Type 0 where
    replies : List (Reply T)
    is : b.replies ≡ a.replies ++ replies
    final : StaysOver events replies

  -- the end is final along every list of events
  final-along : (a b : Account T) (events : List (Event T)) → Leads a events b → Told_final a b events
  final-along a b [] l = record { replies = []; is = ap (λ x. x.replies) l ∙ sym (append-nil a.replies); final = tt }
  final-along a b (e ∷ es) l =
      let told = l.1.0 in
      let Q : Account T → Type 0 = λ x. IsOver x.line in
      let rest = final-along l.0 b es l.2 in
      record {
        replies = told.reply ∷ rest.replies;
        is = more-replies a l.0 e l.1 rest.replies b.replies rest.is;
        final = (
          λ p end.
              let over = over-along l.0 b es (subst Q (sym l.1.2) (over-next a.line a.handles e told (end-over a.line a.handles e told l.1.1 p end) l.1.1)) l.2 in
              subst (AreOver es) (same-rest l.0.replies over.replies rest.replies (sym over.is ∙ rest.is)) over.over,
          rest.final,
        );
      }
    where
      same-rest : (xs ys zs : List (Reply T)) → xs ++ ys ≡ xs ++ zs → ys ≡ zs
      same-rest [] ys zs h = h
      same-rest (x ∷ xs) ys zs h = same-rest xs ys zs (cc)

  pub final-after : (capacity : Option ℕ) (events : List (Event T)) (a : Account T) → Leads (opening_account capacity) events a → StaysOver events a.replies
  final-after capacity events a l = let k = final-along (opening_account capacity) a events l in subst (StaysOver events) (sym k.is) k.final
