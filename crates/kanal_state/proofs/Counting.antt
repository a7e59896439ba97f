-- The calls that count a handle in or out.
use Rattle.kanal_state.proofs.Common.{◌≡◌, ℕ, ◌==◌, true, [], Result, refl, ap, ◌∙◌, subst, inl, inr, cases_Bool, Line, add_receiver, add_sender, last_count, Event, Side, Tx, Rx, StepResult, reply_of, StepSpec, Tells, cloned, StepAppendPost, IsReplied, counted_by, HistoryRelations, count_of, one_less, one_more}
use Rattle.kanal_core.specs.declared.error.TooMany.{TooMany as NoMore}
use Rattle.kanal_state.proofs.Settling.{free_replied, is_free, noted_answered}

more-is-free : (T : Type 0) (side : Side) → is_free (one_more {T = T} side) ≡ true
more-is-free T Tx = refl
more-is-free T Rx = refl

module _ {T : Type 0} where
  cloned-settles : (l : Line T) (count : ℕ) (new : Line T) → (cloned l count new).settled ≡ []
  cloned-settles l count new =
      elim (cases_Bool (count == last_count)) [
        | inl a ↦ rw a refl
        | inr a ↦ rw a refl
      ]

  settles-none : (l : Line T) (side : Side) (told : StepSpec T) → Tells l (one_more side) told → told.settled ≡ []
  settles-none l Tx told (inl was) = ap (λ (t : StepSpec T). t.settled) was ∙ cloned-settles l l.senders (add_sender l)
  settles-none l Tx told (inr m) = absurd m.0
  settles-none l Rx told (inl was) = ap (λ (t : StepSpec T). t.settled) was ∙ cloned-settles l l.receivers (add_receiver l)
  settles-none l Rx told (inr m) = absurd m.0

  -- one handle more settles nobody's wait
  pub more_settles : (l : Line T) (side : Side) (event : Event T) (told : StepSpec T) → event ≡ one_more side → Tells l event told → told.settled ≡ []
  more_settles l side event told is tells = settles-none l side told (subst (λ e. Tells l e told) is tells)

  -- and memory is never refused to it
  pub more_counted : {P W : Type 0} (w : HistoryRelations T P) (old new : P) (side : Side) (event : Event T) (made : StepResult T W) (answer : Result (Unit {0}) NoMore)
      → event ≡ one_more side → StepAppendPost w old new event made → answer ≡ counted_by (reply_of made) → IsReplied w old new (one_more side) counted_by answer
  more_counted w old new side event made answer is noted reads =
      let here : StepAppendPost w old new (one_more side) made = subst (λ e. StepAppendPost w old new e made) is noted in
      free_replied w old new (one_more side) counted_by answer (reply_of made) (noted_answered w old new (one_more side) made here) (more-is-free T side) reads

  -- the last handle of a side leaves none of it
  pub none_left : (l : Line T) (side : Side) (told : StepSpec T) → count_of side l ≡ 1 → Tells l (one_less side) told → count_of side told.line ≡ 0
  none_left l Tx told one (inl was) = ap (λ (t : StepSpec T). t.line.senders) was ∙ rw one refl
  none_left l Tx told one (inr m) = absurd m.0
  none_left l Rx told one (inl was) = ap (λ (t : StepSpec T). t.line.receivers) was ∙ rw one refl
  none_left l Rx told one (inr m) = absurd m.0
