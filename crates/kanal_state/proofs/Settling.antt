-- What passes tell of a call that was noted, of one that waited, and of one that was made where the pass had looked.
use Rattle.kanal_state.proofs.Common.{◌≡◌, ℕ, Bool, true, false, true≢false, List, [], ◌∷◌, refl, ap, sym, ◌∙◌, inl, inr, subst, cases_Bool, Outcome, Event, Send, TrySend, Recv, Drain, Reply, Waits, is_no_memory, no_memory, IsWait, Call, StepResult, Line, IsIn, settled_of, reply_of, MayLack, call_from, replied, HistoryRelations, AreSound, HaveSettled, HaveShown, Lacks, IsReplied, HasWaited, AppendPost, StepAppendPost, IsAnswered, HasReplied, Finishes, Comes}
use Rattle.kanal_state.specs.Waits.{IsWaiting}
use Rattle.kanal_state.specs.declared.counted.CountedWait.{CountedWait}

module _ {T S : Type 0} where
  -- what shows as much shows all
  pub shown_again : (shows : S → ℕ × Outcome T → Type 0) (a b : S) → ((pair : ℕ × Outcome T) → shows a pair → shows b pair) → (pairs : List (ℕ × Outcome T)) → HaveShown shows a pairs → HaveShown shows b pairs
  shown_again shows a b on [] have = tt
  shown_again shows a b on (pair ∷ pairs) have = (on pair have.0, shown_again shows a b on pairs have.1)

module _ {T P : Type 0} (w : HistoryRelations T P) (sound : AreSound w) where
  -- a pass has seen settled what its call settled
  all-settled : (old new : P) (call : Call T) → w.appends old new call → (pairs : List (ℕ × Outcome T)) → ((pair : ℕ × Outcome T) → IsIn pair pairs → IsIn pair call.settled) → HaveSettled w new pairs
  all-settled old new call m [] among = tt
  all-settled old new call m (pair ∷ pairs) among =
      (sound.appends_saw old new call m pair (among pair (inl refl)), all-settled old new call m pairs (λ p i. among p (inr i)))

  -- and so has whoever made it
  pub made_settled : (old new : P) (call : Call T) → w.appends old new call → HaveSettled w new call.settled
  made_settled old new call m = all-settled old new call m call.settled (λ p i. i)

  pub kept_settled : (old new : P) (event : Event T) (call : Call T) → AppendPost w old new event call → HaveSettled w new call.settled
  kept_settled old new event call n =
      elim (cases_Bool (is_no_memory call.reply)) [
        | inl lacking ↦ subst (HaveSettled w new) (sym (n.lacks lacking).2) tt
        | inr clear ↦ made_settled old new call (n.stands clear).0
      ]

  pub noted_settled : {W : Type 0} (old new : P) (event : Event T) (made : StepResult T W) → StepAppendPost w old new event made → HaveSettled w new (settled_of made)
  noted_settled old new event made n = kept_settled old new event (call_from event made) n

  pub replied-from : {R : Type 0} (old mid new : P) (event : Event T) (read : Reply T → R) (answer : R) → w.extends old mid → IsReplied w mid new event read answer → IsReplied w old new event read answer
  replied-from old mid new event read answer extends r =
      record { call = r.call; made = sound.extends_appends old mid new r.call extends r.made; asked = r.asked; reads = r.reads; told = r.told }

  pub lacks-from : (old mid new : P) (event : Event T) → w.extends old mid → Lacks w mid new event → Lacks w old new event
  lacks-from old mid new event extends r = record { extends = sound.extends_trans old mid new extends r.extends; line = r.line; reaches = r.reaches; may = r.may }

  pub answered-from : (old mid new : P) (event : Event T) (reply : Reply T) → w.extends old mid → IsAnswered w mid new event reply → IsAnswered w old new event reply
  answered-from old mid new event reply extends (inl r) = inl (replied-from old mid new event (λ x. x) reply extends r)
  answered-from old mid new event reply extends (inr r) = inr (lacks-from old mid new event extends r.0, r.1)

module _ {T P : Type 0} (w : HistoryRelations T P) where
  -- what shows each settlement that a pass has seen shows all
  pub all_shown : {S : Type 0} (shows : S → ℕ × Outcome T → Type 0) (a : P) (s : S) → ((pair : ℕ × Outcome T) → w.saw_settled a pair → shows s pair) → (pairs : List (ℕ × Outcome T)) → HaveSettled w a pairs → HaveShown shows s pairs
  all_shown shows a s on [] have = tt
  all_shown shows a s on (pair ∷ pairs) have = (on pair have.0, all_shown shows a s on pairs have.1)

  pub kept_answered : (old new : P) (event : Event T) (call : Call T) → AppendPost w old new event call → IsAnswered w old new event call.reply
  kept_answered old new event call n =
      elim (cases_Bool (is_no_memory call.reply)) [
        | inl lacking ↦ let l = n.lacks lacking in inr (l.0, l.1)
        | inr clear ↦ inl (record { call = call; made = (n.stands clear).0; asked = n.asked; reads = refl; told = (n.stands clear).1 })
      ]

  pub noted_answered : {W : Type 0} (old new : P) (event : Event T) (made : StepResult T W) → StepAppendPost w old new event made → IsAnswered w old new event (reply_of made)
  noted_answered old new event made n = kept_answered old new event (call_from event made) n

  -- a call that was noted and doesn't wait, once those are told whose waits it settled
  pub noted_replied : {W : Type 0} (old mid new : P) (event : Event T) (made : StepResult T W) (reply : Reply T)
      → StepAppendPost w old mid event made → (IsWait (reply_of made) → ⊥) → new ≡ mid → reply ≡ reply_of made → HasReplied w old new event reply
  noted_replied old mid new event made reply n clear same is =
      let here : HasReplied w old mid event (reply_of made) = (noted_answered old mid event made n, clear) in
      subst (λ pass. HasReplied w old pass event reply) (sym same) (subst (λ x. HasReplied w old mid event x) (sym is) here)

  -- a call that was kept and doesn't wait
  pub kept_replied : (old new : P) (event : Event T) (call : Call T) → AppendPost w old new event call → (IsWait call.reply → ⊥) → HasReplied w old new event call.reply
  kept_replied old new event call n clear = (kept_answered old new event call n, clear)

  pub has_waited : (old mid new : P) (event : Event T) (ticket : ℕ) (outcome : Outcome T)
      → IsReplied w old mid event (λ reply. reply) (Waits ticket) → w.extends mid new → w.saw_settled new (ticket, outcome) → HasWaited w old new event outcome
  has_waited old mid new event ticket outcome waits extends settled =
      record { ticket = ticket; mid = mid; waits = waits; learns = extends; settled = settled }

  -- the answer of a call that waits where it must, as its replies and outcomes read
  pub finishes_replied : {R : Type 0} (old new : P) (event : Event T) (read : Reply T → R) (ended : Outcome T → R) (refused answer : R) (reply : Reply T)
      → HasReplied w old new event reply → read (no_memory event) ≡ refused → answer ≡ read reply → Finishes w old new event read ended refused answer
  finishes_replied old new event read ended refused answer reply (inl r, clear) none is =
      inl (record { replied = record { call = r.call; made = r.made; asked = r.asked; reads = is ∙ ap read r.reads; told = r.told }; clear = subst (λ x. IsWait x → ⊥) r.reads clear })
  finishes_replied old new event read ended refused answer reply (inr r, clear) none is = inr (inr (r.0, is ∙ (ap read r.1 ∙ none)))

  -- and of one that never waits
  pub comes_replied : {R : Type 0} (old new : P) (event : Event T) (read : Reply T → R) (refused answer : R) (reply : Reply T)
      → IsAnswered w old new event reply → read (no_memory event) ≡ refused → answer ≡ read reply → Comes w old new event read refused answer
  comes_replied old new event read refused answer reply (inl r) none is = inl (record { call = r.call; made = r.made; asked = r.asked; reads = is ∙ ap read r.reads; told = r.told })
  comes_replied old new event read refused answer reply (inr r) none is = inr (r.0, is ∙ (ap read r.1 ∙ none))

module _ {T P : Type 0} (w : HistoryRelations T P) (sound : AreSound w) where
  -- a call that was refused where the pass had looked
  pub refused_replied : (old mid new : P) (event back : Event T) (reply : Reply T)
      → w.extends old mid → back ≡ event → AppendPost w mid new back (replied back reply) → (IsWait reply → ⊥) → HasReplied w old new event reply
  refused_replied old mid new event back reply extends same kept clear =
      subst (λ e. HasReplied w old new e reply) same (answered-from w sound old mid new back reply extends (kept_answered w mid new back (replied back reply) kept), clear)

  -- what began where the pass had looked
  pub replied_on : (old mid new : P) (event back : Event T) (reply : Reply T) → w.extends old mid → back ≡ event → HasReplied w mid new back reply → HasReplied w old new event reply
  replied_on old mid new event back reply extends same c = subst (λ e. HasReplied w old new e reply) same (answered-from w sound old mid new back reply extends c.0, c.1)

  pub waiting_on : (old mid new : P) (event back : Event T) (counted : CountedWait) → w.extends old mid → back ≡ event → IsWaiting w mid new back counted → IsWaiting w old new event counted
  waiting_on old mid new event back counted extends same c = subst (λ e. IsWaiting w old new e counted) same (replied-from w sound old mid new back (λ reply. reply) _ extends c)

off : false ≡ true → ⊥
off e = true≢false (sym e)

module _ {T : Type 0} where
  -- memory is never refused to a call of this event
  abbrev pub is_free : Event T → Bool
  is_free (Send m) = false
  is_free (TrySend m) = false
  is_free Recv = false
  is_free Drain = false
  is_free event = true

  free-never : (l : Line T) (event : Event T) → is_free event ≡ true → MayLack l event → ⊥
  free-never l (Send m) free may = off free
  free-never l (TrySend m) free may = off free
  free-never l Recv free may = off free
  free-never l Drain free may = off free
  free-never l event free (inl may) = may
  free-never l event free (inr may) = may

  -- the answer of a call to which memory is never refused
  pub free_replied : {P R : Type 0} (w : HistoryRelations T P) (old new : P) (event : Event T) (read : Reply T → R) (answer : R) (reply : Reply T)
      → IsAnswered w old new event reply → is_free event ≡ true → answer ≡ read reply → IsReplied w old new event read answer
  free_replied w old new event read answer reply (inl r) free is = record { call = r.call; made = r.made; asked = r.asked; reads = is ∙ ap read r.reads; told = r.told }
  free_replied w old new event read answer reply (inr r) free is = absurd (free-never r.0.line event free r.0.may)
