-- What a step tells, where it was refused for memory and where it was not.
use Rattle.kanal_state.proofs.Common.{◌≡◌, ◌≢◌, ◌==◌, ℕ, true, false, refl, ap, sym, ◌∙◌, inl, inr, arith, cases_Bool, false≢true, Line, last_word, Event, Send, Recv, TooMany, StepSpec, step, refused, Tells, is_no_memory, MustWait}

-- a number that is not 0 is not equal to 0, as it is computed
not-zero : (n : ℕ) → n ≢ 0 → (n == 0) ≡ false
not-zero n more =
    elim (cases_Bool (n == 0)) [
      | inl a ↦ absurd (more (grind (arith, a)))
      | inr a ↦ a
    ]

module _ {T : Type 0} where
  -- what was not refused for memory is the line's step
  pub tells_step : (l : Line T) (e : Event T) (told : StepSpec T) → Tells l e told → is_no_memory told.reply ≡ false → told ≡ step l e
  tells_step l e told (inl is) clear = is
  tells_step l e told (inr is) clear = absurd (false≢true (sym clear ∙ ap (λ (t : StepSpec T). is_no_memory t.reply) is.1))

  -- a call that must wait is refused where the tickets are used up
  pub too_many : (l : Line T) (e : Event T) → MustWait l e → (l.next == last_word) ≡ true → step l e ≡ refused l TooMany e
  too_many l (Send m) must last = rw (not-zero l.receivers must.0, not-zero l.senders must.1, must.2, last) refl
  too_many l Recv must last = rw (not-zero l.receivers must.0, must.2, not-zero l.senders must.1, last) refl
  too_many l e must last = absurd must
