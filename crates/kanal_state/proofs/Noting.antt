-- What is kept of a call that was noted.
use Rattle.kanal_state.proofs.Common.{◌≡◌, ap, sym, subst, inl, inr, Line, Event, DropTx, DropRx, StepResult, StepSpec, step, Tells, told_of, IsDrop, MovesNoMessage, IsToldOn, call_of, call_from}

module _ {T : Type 0} where
  -- a call that was told the line's step is told so on that line
  pub told-on : (l : Line T) (e : Event T) (told : StepSpec T) → told ≡ step l e → call_of e told ≡ call_of e (step l e)
  told-on l e told is = ap (call_of e) is

module _ {T : Type 0} where
  -- the drop of a handle is never refused for memory
  pub drop_told : (l : Line T) (e : Event T) (told : StepSpec T) → IsDrop e → Tells l e told → told ≡ step l e
  drop_told l DropTx told drops (inl is) = is
  drop_told l DropTx told drops (inr m) = absurd m.0
  drop_told l DropRx told drops (inl is) = is
  drop_told l DropRx told drops (inr m) = absurd m.0
  drop_told l e told drops tells = absurd drops

  -- it is silent
  pub drop_moves_none : (e : Event T) → IsDrop e → MovesNoMessage e
  drop_moves_none DropTx drops = tt
  drop_moves_none DropRx drops = tt
  drop_moves_none e drops = absurd drops

module _ {T W : Type 0} where
  -- a drop that was made is told so on the line that it found
  pub drop_on : (l new : Line T) (event asked : Event T) (m : StepResult T W) → asked ≡ event → IsDrop event → Tells l event (told_of new m) → IsToldOn l (call_from asked m) × MovesNoMessage asked
  drop_on l new event asked m was drops tells =
      let told : call_from event m ≡ call_of event (step l event) = told-on l event (told_of new m) (drop_told l event (told_of new m) drops tells) in
      subst (λ e. (call_from e m ≡ call_of e (step l e)) × MovesNoMessage e) (sym was) (told, drop_moves_none event drops)
