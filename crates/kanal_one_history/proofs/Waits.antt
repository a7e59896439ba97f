-- What the waits of a legal history came to.
use Rattle.kanal_one_history.proofs.Common.{◌≡◌, ◌≤◌, ℕ, ◌+◌, false, true, ◌==◌, ◌&&◌, List, [], ◌∷◌, ◌++◌, length, filter, Option, Some, None, refl, sym, ap, ◌∙◌, subst, inl, inr, arith, append-nil, append_assoc, list_any, cases_Bool, eq-eqb, Outcome, Settlement, numbered, PairedHistory, along, given, gift_of, history_from, is_ended, withdrawn_ticket, settled_times, withdrawn_times, ends-once, Call, IsIn, account_after, HasSettled, IsLegal, history_of, with_call, with_calls, EachEndsOnce, WaitsAsSettled}
use Rattle.std.specs.Option.{option_or}
use Rattle.std.proofs.lemmas.List.Folds.{list_any-append}
use Rattle.kanal_one_history.proofs.Accounts.{leads_as_told}

-- what is not there is not found
none-there : (t : ℕ) (xs : List ℕ) → length (filter (λ u. u == t) xs) ≡ 0 → list_any (λ u. u == t) xs ≡ false
none-there t [] z = refl
none-there t (x ∷ xs) z =
    elim (cases_Bool (x == t)) [
      | inl e ↦ let k : length (x ∷ filter (λ u. u == t) xs) ≡ 0 = rw e at z in absurd (omega (arith, k))
      | inr e ↦ rw e (none-there t xs (rw e at z))
    ]

module _ {T : Type 0} where
  -- a ticket of a legal history ends once at most
  pub each_ends_once : (capacity : Option ℕ) (log : List (Call T)) → IsLegal capacity log → EachEndsOnce log
  each_ends_once capacity log legal t =
      let h : PairedHistory T = history_of log in
      let k = leads_as_told capacity log legal in
      let a = account_after capacity log in
      let once : settled_times t a.settled + withdrawn_times t h.events a.replies ≤ 1 = ends-once capacity h.events a k.leads t in
      let back : settled_times t a.settled + length (filter (λ u. u == t) (along withdrawn_ticket h.events h.replies)) ≤ 1 =
      subst (λ us. settled_times t a.settled + length (filter (λ u. u == t) us) ≤ 1) k.withdrawn once in
      subst (λ ss. settled_times t ss + withdrawn_times t h.events h.replies ≤ 1) k.settled back

  -- the settlement of the ticket stands among these
  record Stands (t : ℕ) (outcome : Outcome T) (ss : List (Settlement T)) : Type 0 where
    before : List (Settlement T)
    number : ℕ
    rest : List (Settlement T)
    is : ss ≡ before ++ record { step = number; ticket = t; outcome = outcome } ∷ rest

  module _ (t : ℕ) (outcome : Outcome T) where
    -- this settlement, at the step with the number
    abbrev at-step : ℕ → Settlement T
    at-step n = record { step = n; ticket = t; outcome = outcome }

    stands-left : (ss more : List (Settlement T)) → Stands t outcome ss → Stands t outcome (ss ++ more)
    stands-left ss more s =
        record { before = s.before; number = s.number; rest = s.rest ++ more; is = ap (λ xs. xs ++ more) s.is ∙ append_assoc s.before (at-step s.number ∷ s.rest) more }

    stands-right : (ss more : List (Settlement T)) → Stands t outcome more → Stands t outcome (ss ++ more)
    stands-right ss more s =
        record { before = ss ++ s.before; number = s.number; rest = s.rest; is = ap (λ xs. ss ++ xs) s.is ∙ sym (append_assoc ss s.before (at-step s.number ∷ s.rest)) }

    stands-in : (n : ℕ) (settled : List (ℕ × Outcome T)) → IsIn (t, outcome) settled → Stands t outcome (numbered n settled)
    stands-in n [] i = absurd i
    stands-in n (s ∷ ss) (inl e) =
        record { before = []; number = n; rest = numbered n ss; is = ap (λ (p : ℕ × Outcome T). record { step = n; ticket = p.0; outcome = p.1 } ∷ numbered n ss) (sym e) }
    stands-in n (s ∷ ss) (inr i) = stands-right (record { step = n; ticket = s.0; outcome = s.1 } ∷ []) (numbered n ss) (stands-in n ss i)

    stands-calls : (h : PairedHistory T) (cs : List (Call T)) → Stands t outcome h.settled → Stands t outcome (with_calls h cs).settled
    stands-calls h [] s = s
    stands-calls h (c ∷ cs) s = stands-calls (with_call h c) cs (stands-left h.settled (numbered (length h.replies) c.settled) s)

    stands-there : (h : PairedHistory T) (before : List (Call T)) (c : Call T) (rest : List (Call T)) → IsIn (t, outcome) c.settled → Stands t outcome (with_calls h (before ++ c ∷ rest)).settled
    stands-there h [] c rest i = stands-calls (with_call h c) rest (stands-right h.settled (numbered (length h.replies) c.settled) (stands-in (length h.replies) c.settled i))
    stands-there h (b ∷ bs) c rest i = stands-there (with_call h b) bs c rest i

    stands-settled : (cs : List (Call T)) → HasSettled cs (t, outcome) → Stands t outcome (history_of cs).settled
    stands-settled cs s = subst (λ (xs : List (Call T)). Stands t outcome (history_of xs).settled) (sym s.stands) (stands-there (history_from [] [] [] []) s.before s.call s.rest s.settled)

  module _ (t : ℕ) where
    times-append : (xs ys : List (Settlement T)) → settled_times t (xs ++ ys) ≡ settled_times t xs + settled_times t ys
    times-append [] ys = omega arith
    times-append (x ∷ xs) ys = elim (cases_Bool (x.ticket == t)) [ inl e ↦ rw e (omega (arith, times-append xs ys)) | inr e ↦ rw e (omega (arith, times-append xs ys)) ]

    times-here : (n : ℕ) (outcome : Outcome T) (ys : List (Settlement T)) → settled_times t (record { step = n; ticket = t; outcome = outcome } ∷ ys) ≡ 1 + settled_times t ys
    times-here n outcome ys = let same : (t == t) ≡ true = eq-eqb t t refl in rw same (omega arith)

    -- what was not settled was given nothing, and did not end
    none-given : (xs zs : List (Settlement T)) → settled_times t xs ≡ 0 → given (xs ++ zs) t ≡ given zs t
    none-given [] zs z = refl
    none-given (x ∷ xs) zs z =
        elim (cases_Bool (x.ticket == t)) [
          | inl e ↦ let k : length (x ∷ filter (λ s. s.ticket == t) xs) ≡ 0 = rw e at z in absurd (omega (arith, k))
          | inr e ↦ rw e (none-given xs zs (rw e at z))
        ]

    none-ended : (xs : List (Settlement T)) → settled_times t xs ≡ 0 → list_any (λ s. (s.ticket == t) && is_ended s.outcome) xs ≡ false
    none-ended [] z = refl
    none-ended (x ∷ xs) z =
        elim (cases_Bool (x.ticket == t)) [
          | inl e ↦ let k : length (x ∷ filter (λ s. s.ticket == t) xs) ≡ 0 = rw e at z in absurd (omega (arith, k))
          | inr e ↦ rw e (none-ended xs (rw e at z))
        ]

    or-none : (o : Option T) → option_or o None ≡ o
    or-none None = refl
    or-none (Some m) = refl

    all-given : (before rest : List (Settlement T)) (n : ℕ) (outcome : Outcome T) → settled_times t before ≡ 0 → settled_times t rest ≡ 0
        → given (before ++ at-step t outcome n ∷ rest) t ≡ gift_of outcome
    all-given before rest n outcome a b =
        let same : (t == t) ≡ true = eq-eqb t t refl in
        let none : given rest t ≡ None = ap (λ xs. given xs t) (sym (append-nil rest)) ∙ none-given rest [] b in
        none-given before (at-step t outcome n ∷ rest) a ∙ rw (same, none) (or-none (gift_of outcome))

    all-ended : (before rest : List (Settlement T)) (n : ℕ) (outcome : Outcome T) → settled_times t before ≡ 0 → settled_times t rest ≡ 0 → is_ended outcome ≡ false
        → list_any (λ s. (s.ticket == t) && is_ended s.outcome) (before ++ at-step t outcome n ∷ rest) ≡ false
    all-ended before rest n outcome a b off =
        let same : (t == t) ≡ true = eq-eqb t t refl in
        list_any-append (λ (s : Settlement T). (s.ticket == t) && is_ended s.outcome) before (at-step t outcome n ∷ rest) ∙ rw (none-ended before a, same, off, none-ended rest b) refl

  -- what was settled once came to just that
  pub waits_as_settled : (capacity : Option ℕ) (log : List (Call T)) → IsLegal capacity log → WaitsAsSettled log
  waits_as_settled capacity log legal t outcome settled off =
      let h : PairedHistory T = history_of log in
      let s = stands-settled t outcome log settled in
      let once = each_ends_once capacity log legal t in
      let count : settled_times t h.settled ≡ settled_times t s.before + (1 + settled_times t s.rest) =
      ap (settled_times t) s.is ∙ (times-append t s.before (at-step t outcome s.number ∷ s.rest) ∙ ap (λ k. settled_times t s.before + k) (times-here t s.number outcome s.rest)) in
      let a : settled_times t s.before ≡ 0 = omega (arith, once, count) in
      let b : settled_times t s.rest ≡ 0 = omega (arith, once, count) in
      let w : withdrawn_times t h.events h.replies ≡ 0 = omega (arith, once, count) in
      let back : list_any (λ u. u == t) (along withdrawn_ticket h.events h.replies) ≡ false = none-there t (along withdrawn_ticket h.events h.replies) w in
      let ended : list_any (λ x. (x.ticket == t) && is_ended x.outcome) h.settled ≡ false =
      ap (λ xs. list_any (λ (x : Settlement T). (x.ticket == t) && is_ended x.outcome) xs) s.is ∙ all-ended t s.before s.rest s.number outcome a b off in
      (rw (back, ended) refl, ap (λ xs. given xs t) s.is ∙ all-given t s.before s.rest s.number outcome a b)
