-- A legal history is paired.
use Rattle.kanal_one_history.proofs.Common.{◌≡◌, ℕ, zero, suc, List, [], ◌∷◌, length, Option, sym, inl, subst, Line, step, opening_line, PairedHistory, Paired, Holds, holds_paired, Call, call_of, after, AreTold, IsLegal, with_call, with_calls, history_of}
use Rattle.std.proofs.Common.{take}
use Rattle.kanal_journal.proofs.Along.{holds-opening}
use Rattle.kanal_journal.proofs.EachStep.{told-holds}
use Rattle.kanal_one_history.proofs.Telling.{live, live-made}

module _ {T : Type 0} where
  holds-call : (h : PairedHistory T) (l : Line T) (c : Call T) → Holds h l → c ≡ call_of c.event (step l c.event) → Holds (with_call h c) (step l c.event).line
  holds-call h l c holds is =
      let P : Call T → Type 0 = λ x. Holds (with_call h x) (step l c.event).line in
      subst P (sym is) (told-holds h l holds (length h.replies) live c.event (step l c.event) (inl (sym (live-made l c.event))))

  holds-calls : (h : PairedHistory T) (l : Line T) (cs : List (Call T)) → Holds h l → AreTold l cs → Holds (with_calls h cs) (after l cs)
  holds-calls h l [] holds told = holds
  holds-calls h l (c ∷ cs) holds told = holds-calls (with_call h c) (step l c.event).line cs (holds-call h l c holds told.0) told.1

  -- the i-th kept message of a legal history went to the i-th kept demand
  pub legal-paired : (capacity : Option ℕ) (cs : List (Call T)) → IsLegal capacity cs → Paired (history_of cs)
  legal-paired capacity cs legal =
      let there = holds-calls _ (opening_line capacity) cs (holds-opening capacity) legal in
      holds_paired (history_of cs) (after (opening_line capacity) cs) there

  told-take : (n : ℕ) (l : Line T) (cs : List (Call T)) → AreTold l cs → AreTold l (take n cs)
  told-take zero l cs told = tt
  told-take (suc n) l [] told = tt
  told-take (suc n) l (c ∷ cs) told = (told.0, told-take n (step l c.event).line cs told.1)

  -- each beginning of a legal history is legal
  pub legal_take : (capacity : Option ℕ) (cs : List (Call T)) → IsLegal capacity cs → (n : ℕ) → IsLegal capacity (take n cs)
  legal_take capacity cs legal n = told-take n (opening_line capacity) cs legal

  -- and paired
  pub legal_paired_at : (capacity : Option ℕ) (cs : List (Call T)) → IsLegal capacity cs → (n : ℕ) → Paired (history_of (take n cs))
  legal_paired_at capacity cs legal n = legal-paired capacity (take n cs) (legal_take capacity cs legal n)
