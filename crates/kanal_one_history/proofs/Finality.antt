-- Once a receive of a legal history was told that nothing will come, each later one is told so.
use Rattle.kanal_one_history.proofs.Common.{◌≡◌, true, false, List, [], ◌∷◌, ◌++◌, map, refl, sym, ap, ◌∙◌, inl, inr, append-nil, append_assoc, cases_Bool, false≢true, Line, Event, Recv, TryRecv, Reply, step, Handles, handles_after, has_handle, PairedHistory, AreOver, StaysOver, is_receive, tells_end, tells_end_or_no_handle, Call, IsToldOn, replies_by, reply_by, AreTold, with_call, with_calls}
use Rattle.kanal_journal.proofs.Standing.{told-zero}
use Rattle.kanal_one_history.proofs.Telling.{live, live-made}
use Rattle.kanal_one_history.proofs.Handles.{IsHeld, held_next, nobody}

module _ {T : Type 0} where
  -- the events and the replies of these calls
  abbrev pub events_of : List (Call T) → List (Event T)
  events_of cs = map (λ c. c.event) cs

  abbrev pub replies_of : List (Call T) → List (Reply T)
  replies_of cs = map (λ c. c.reply) cs

  pub with_events : (h : PairedHistory T) (cs : List (Call T)) → (with_calls h cs).events ≡ h.events ++ events_of cs
  with_events h [] = sym (append-nil h.events)
  with_events h (c ∷ cs) = with_events (with_call h c) cs ∙ append_assoc h.events (c.event ∷ []) (events_of cs)

  pub with_replies : (h : PairedHistory T) (cs : List (Call T)) → (with_calls h cs).replies ≡ h.replies ++ replies_of cs
  with_replies h [] = sym (append-nil h.replies)
  with_replies h (c ∷ cs) = with_replies (with_call h c) cs ∙ append_assoc h.replies (c.reply ∷ []) (replies_of cs)

  -- a receive without a receiver
  none-told : (l : Line T) (e : Event T) → l.receivers ≡ 0 → is_receive e ≡ true → tells_end_or_no_handle (step l e).reply ≡ true
  none-told l Recv y p = rw y refl
  none-told l TryRecv y p = rw y refl
  none-told l e y p = absurd (false≢true p)

  none-over : (l : Line T) (cs : List (Call T)) → l.receivers ≡ 0 → AreTold l cs → AreOver (events_of cs) (replies_of cs)
  none-over l [] y told = tt
  none-over l (c ∷ cs) y told =
      let still = (told-zero l live c.event (step l c.event) (inl (sym (live-made l c.event)))).1 y in
      (λ p. ap (λ (x : Call T). tells_end_or_no_handle x.reply) told.0 ∙ none-told l c.event y p, none-over (step l c.event).line cs still told.1)

  -- a receive without a live handle
  no-receiver : (handles : Handles) (l : Line T) (e : Event T) → IsHeld handles l → is_receive e ≡ true → has_handle handles e ≡ false → l.receivers ≡ 0
  no-receiver handles l Recv held p off = nobody handles.rx l.receivers off held.1
  no-receiver handles l TryRecv held p off = nobody handles.rx l.receivers off held.1
  no-receiver handles l e held p off = absurd (false≢true p)

  module _ (handles : Handles) (l : Line T) (c : Call T) (held : IsHeld handles l) (told : IsToldOn l c) where
    -- what the call is told is over where its reply through the handles is
    over-here : is_receive c.event ≡ true → tells_end_or_no_handle (reply_by handles c) ≡ true → tells_end_or_no_handle c.reply ≡ true
    over-here p end =
        elim (cases_Bool (has_handle handles c.event)) [
          | inl x ↦ rw x at end
          | inr x ↦ ap (λ (y : Call T). tells_end_or_no_handle y.reply) told ∙ none-told l c.event (no-receiver handles l c.event held p x) p
        ]

  still-over : (handles : Handles) (l : Line T) (cs : List (Call T)) → IsHeld handles l → AreTold l cs → AreOver (events_of cs) (replies_by handles cs) → AreOver (events_of cs) (replies_of cs)
  still-over handles l [] held told over = tt
  still-over handles l (c ∷ cs) held told over =
      let next = held_next handles l c held told.0 in
      let hs = handles_after handles c.event (reply_by handles c) in
      (λ p. over-here handles l c held told.0 p (over.0 p), still-over hs (step l c.event).line cs next told.1 over.1)

  pub stays_over : (handles : Handles) (l : Line T) (cs : List (Call T)) → IsHeld handles l → AreTold l cs → StaysOver (events_of cs) (replies_by handles cs) → StaysOver (events_of cs) (replies_of cs)
  stays_over handles l [] held told over = tt
  stays_over handles l (c ∷ cs) held told over =
      let next = held_next handles l c held told.0 in
      let hs = handles_after handles c.event (reply_by handles c) in
      let later : is_receive c.event ≡ true → tells_end c.reply ≡ true → AreOver (events_of cs) (replies_of cs) =
      λ p end.
      elim (cases_Bool (has_handle handles c.event)) [
        | inl x ↦
            let same : reply_by handles c ≡ c.reply = rw x refl in
            still-over hs (step l c.event).line cs next told.1 (over.0 p (ap tells_end same ∙ end))
        | inr x ↦
            let none = no-receiver handles l c.event held p x in
            none-over (step l c.event).line cs ((told-zero l live c.event (step l c.event) (inl (sym (live-made l c.event)))).1 none) told.1
      ] in
      (later, stays_over hs (step l c.event).line cs next told.1 over.1)
