-- A drain: what it tells, and what it adds to a vector.
use Rattle.kanal_channel.proofs.Common.{◌≡◌, ◌==◌, true, true≢false, List, [], ◌++◌, length, IfOk, refl, ap, sym, ◌∙◌, inl, inr, subst, cases_Bool, Line, Drain, is_no_memory, take_line, Call, drained_of, drained_of_left, reply_of, reply_of_left, Drains, StepAppendPost, drained_by, HistoryRelations}
use Rattle.std.proofs.lemmas.List.{append-nil, length-map}
use Rattle.kanal_events.specs.declared.step_result.StepResult.{StepResult}
use Rattle.kanal_events.specs.declared.step_result.Leaving.{Leaving}
use Rattle.kanal_events.specs.declared.step_result.Leaving.TheVariants.{One, All, Shut, Drained as WasDrained}
use Rattle.kanal_state.specs.Entries.{call_from}

module _ {T : Type 0} where
  -- the answer of a drain is the number of its messages
  counted-line : (l : Line T) → IfOk (drained_by (take_line l).reply) (λ n. n ≡ length (take_line l).drained)
  counted-line l =
      elim (cases_Bool (l.receivers == 0)) [
        | inl a ↦ rw a tt
        | inr a ↦ rw a (sym (length-map l.line _))
      ]

module _ {T W : Type 0} where
  none-pending : (leaving : Leaving T W) → is_no_memory (reply_of_left leaving) ≡ true → drained_of_left leaving ≡ []
  none-pending (One reply settled) lacking = refl
  none-pending (All reply ended) lacking = refl
  none-pending (Shut closing) lacking = refl
  none-pending (WasDrained count ended moved) lacking = absurd (true≢false (sym lacking))

  none-drained : (made : StepResult T W) → is_no_memory (reply_of made) ≡ true → drained_of made ≡ []
  none-drained made lacking = none-pending made.leaving lacking

  -- a drain that was noted
  pub noted_drains : {P : Type 0} (w : HistoryRelations T P) (old new : P) (before now : List T) (made : StepResult T W)
      → StepAppendPost w old new Drain made → now ≡ before ++ drained_of made → Drains w old new before now (drained_by (reply_of made))
  noted_drains w old new before now made n moved =
      elim (cases_Bool (is_no_memory (reply_of made))) [
        | inl lacking ↦ let l = n.lacks lacking in inr (l.0, moved ∙ (ap (λ ms. before ++ ms) (none-drained made lacking) ∙ append-nil before), ap drained_by l.1)
        | inr clear ↦
            let m = n.stands clear in
            inl (
            record {
              replied = record { call = call_from Drain made; made = m.0; asked = refl; reads = refl; told = m.1 };
              moved = moved;
              count = subst (λ (c : Call T). IfOk (drained_by c.reply) (λ k. k ≡ length c.drained)) (sym m.1.1) (counted-line m.1.0);
            }
            )
      ]
