-- What a loop over two streams has handed out: polls that had none, messages, and the end.
use denote.Param.Members.{Mut, Called}
use Rattle.std.proofs.Common.{◌≡◌, ◌⊎◌, false, [], ◌∷◌, Option, Some, None, Result, refl, sym, ◌∙◌, subst, inl, inr, is_some}
use Rattle.std.specs.Option.{IsSome}
use Rattle.std.proofs.lemmas.Bool.{false≢true}
use Rattle.futures.specs.declared.future.either.Either.{Either}
use Rattle.kanal_core.specs.declared.error.ReceiveError.{ReceiveError}
use Rattle.kanal_state.specs.HistoryRelations.{HistoryRelations}
use Rattle.kanal_futures.specs.declared.prefer.Prefer.{Prefer}
use Rattle.kanal_futures.specs.Prefers.{BothEnd, HandsAll, HandsOut, HaveNone}
use Rattle.kanal_futures.specs.Streams.{StreamRefused, stream_fault, stream_pass}

module _ {T P : Type 0} (w : HistoryRelations T P) where
  -- a stream is as it was, or it has ended now: by its faults and its passes
  abbrev pub None_of : Option P → Option ReceiveError → Option P → Option ReceiveError → Type 0
  None_of p f q g = ((g ≡ f) × (q ≡ p)) ⊎ ((is_some f ≡ false) × (IsSome p → StreamRefused w p q g))

  pub none_on : (p q r : Option P) (f g h : Option ReceiveError) → None_of p f q g → None_of q g r h → None_of p f r h
  none_on p q r f g h (inl same) (inl again) = inl (again.0 ∙ same.0, again.1 ∙ same.1)
  none_on p q r f g h (inl same) (inr ended) =
      inr (subst (λ o. is_some o ≡ false) same.0 ended.0, λ some. subst (λ o. StreamRefused w o r h) same.1 (ended.1 (subst IsSome (sym same.1) some)))
  none_on p q r f g h (inr ended) (inl again) =
      inr (ended.0, λ some. subst (λ o. StreamRefused w p o h) (sym again.1) (subst (StreamRefused w p q) (sym again.0) (ended.1 some)))
  none_on p q r f None h (inr ended) (inr again) = inr (ended.0, λ some. absurd (ended.1 some))
  none_on p q r f (Some e) h (inr ended) (inr again) = absurd (false≢true (sym again.0))

module _ {A B HistA HistB PassA LogA PrefixA InternalA PassB LogB PrefixB InternalB : Type 0} (v : HistoryRelations A PassA) (w : HistoryRelations B PassB) where
  have_none_on : (old mid new : Prefer A B HistA HistB PassA LogA PrefixA InternalA PassB LogB PrefixB InternalB) → HaveNone v w old mid → HaveNone v w mid new → HaveNone v w old new
  have_none_on old mid new one other = (
    none_on v (stream_pass old.first) (stream_pass mid.first) (stream_pass new.first) (stream_fault old.first) (stream_fault mid.first) (stream_fault new.first) one.0 other.0,
    none_on w (stream_pass old.second) (stream_pass mid.second) (stream_pass new.second) (stream_fault old.second) (stream_fault mid.second) (stream_fault new.second) one.1 other.1,
  )

  have_none_here : (p : Prefer A B HistA HistB PassA LogA PrefixA InternalA PassB LogB PrefixB InternalB) → HaveNone v w p p
  have_none_here p = (inl (refl, refl), inl (refl, refl))

  module _ {F : Type 0} (call : Mut F (Either A B × Unit {0}) (Unit {0})) where
    -- what came after a poll that had none came after what was before it
    pub none_before : (old mid : Prefer A B HistA HistB PassA LogA PrefixA InternalA PassB LogB PrefixB InternalB) (first : F) (answer : Result (Unit {0}) ReceiveError) → HaveNone v w old mid → HandsAll v w call mid first answer → HandsAll v w call old first answer
    none_before old mid first answer none ([], ended) = ([], (ended.0, have_none_on old mid ended.0 none ended.1, ended.2))
    none_before old mid first answer none (message ∷ later, came) =
        (message ∷ later, (came.0, came.1, came.2, have_none_on old mid came.0 none came.3, came.4, came.5, came.6))

    -- a message that was handed out and to the call came before what came after it
    pub message_before : (old new : Prefer A B HistA HistB PassA LogA PrefixA InternalA PassB LogB PrefixB InternalB) (first next : F) (message : Either A B) (answer : Result (Unit {0}) ReceiveError)
        → HandsOut v w old new message → Called call first (message, tt) tt next → HandsAll v w call new next answer → HandsAll v w call old first answer
    message_before old new first next message answer out called all = (message ∷ all.0, (old, new, next, have_none_here old, out, called, all.1))

    -- no message came, and both have ended
    pub none_then_end : (old new : Prefer A B HistA HistB PassA LogA PrefixA InternalA PassB LogB PrefixB InternalB) (first : F) (answer : Result (Unit {0}) ReceiveError) → HaveNone v w old new → BothEnd new answer → HandsAll v w call old first answer
    none_then_end old new first answer none ended = ([], (new, none, ended))
