-- The events of a legal history lead a new channel to an account that tells what its calls were told.
use Rattle.kanal_one_history.proofs.Common.{◌≡◌, ◌≤◌, ℕ, ◌==◌, ◌&&◌, ◌||◌, List, [], ◌∷◌, ◌++◌, length, map, filter, Option, Some, None, refl, sym, ap, ◌∙◌, subst, inl, inr, arith, append-nil, append_assoc, length-append, list_any, sum_by, cases_Bool, Line, Event, Reply, step, Settlement, Account, Leads, handles_after, made, numbered, opening_account, opening_line, Demand, AtOnce, Later, Next, PairedHistory, along, asked, cleared_by, demand_stays, demands, history_from, is_ended, is_gone, kept, send_stays, sent, withdrawn_ticket, without_last, StaysOver, told_history, Call, call_of, LeadsAsTold, account_after, all_cleared, replies_by, reply_by, AreTold, IsLegal, after, history_of, with_call, with_calls}
use Rattle.std.proofs.lemmas.List.Sums.{sum_by-append}
use Rattle.kanal_journal.specs.Replays.{next_account, played}
use Rattle.kanal_journal.proofs.Replaying.{leads-played}
use Rattle.kanal_journal.proofs.Over.{final-after}
use Rattle.kanal_journal.proofs.Sends.{along-last}
use Rattle.kanal_one_history.proofs.Telling.{live}
use Rattle.kanal_one_history.proofs.Handles.{IsHeld, as_step, reply_told}
use Rattle.kanal_one_history.proofs.Finality.{events_of, stays_over, with_events, with_replies}

module _ {T : Type 0} where
  -- the account tells what the history tells, but for replies that say that there is no live handle
  pub record Agrees (h : PairedHistory T) (a : Account T) : Type 0 where
    pub same : length h.events ≡ length h.replies
    pub count : length a.replies ≡ length h.replies
    pub settled : a.settled ≡ h.settled
    pub drained : a.drained ≡ h.drained
    pub sends : along sent h.events a.replies ≡ along sent h.events h.replies
    pub asks : along asked h.events a.replies ≡ along asked h.events h.replies
    pub withdraws : along withdrawn_ticket h.events a.replies ≡ along withdrawn_ticket h.events h.replies
    pub clears : sum_by cleared_by a.replies ≡ sum_by cleared_by h.replies
    pub held : IsHeld a.handles a.line

  module _ (h : PairedHistory T) (a : Account T) (e : Event T) (now : Agrees h a) where
    along-both : {X : Type 0} (f : Event T → Reply T → List X) (r s : Reply T) → along f h.events a.replies ≡ along f h.events h.replies → f e r ≡ f e s
        → along f (h.events ++ e ∷ []) (a.replies ++ r ∷ []) ≡ along f (h.events ++ e ∷ []) (h.replies ++ s ∷ [])
    along-both f r s past last =
        along-last f h.events a.replies e r (now.same ∙ sym now.count)
        ∙ (ap (λ xs. xs ++ f e r) past ∙ (ap (λ xs. along f h.events h.replies ++ xs) last ∙ sym (along-last f h.events h.replies e s now.same)))

    agrees-step : Agrees (with_call h (call_of e (step a.line e))) (next_account a e)
    agrees-step =
        let t = made a.handles a.line e in
        let s = step a.line e in
        let k = as_step a.handles a.line e now.held in
        let n = length h.replies in
        record {
          same = omega (arith, now.same, length-append h.events (e ∷ []), length-append h.replies (s.reply ∷ []));
          count = omega (arith, now.count, length-append a.replies (t.reply ∷ []), length-append h.replies (s.reply ∷ []));
          settled =
              ap (λ i. a.settled ++ numbered i t.settled) now.count
              ∙ (ap (λ xs. a.settled ++ numbered n xs) k.settled ∙ ap (λ xs. xs ++ numbered n s.settled) now.settled);
          drained = ap (λ xs. a.drained ++ xs) k.drained ∙ ap (λ xs. xs ++ s.drained) now.drained;
          sends = along-both sent t.reply s.reply now.sends k.sends;
          asks = along-both asked t.reply s.reply now.asks k.asks;
          withdraws = along-both withdrawn_ticket t.reply s.reply now.withdraws k.withdraws;
          clears = omega (arith, now.clears, k.clears, sum_by-append cleared_by a.replies (t.reply ∷ []), sum_by-append cleared_by h.replies (s.reply ∷ []));
          held = k.held;
        }

  agrees-next : (h : PairedHistory T) (a : Account T) (c : Call T) → Agrees h a → c ≡ call_of c.event (step a.line c.event) → Agrees (with_call h c) (next_account a c.event)
  agrees-next h a c now is =
      let P : Call T → Type 0 = λ x. Agrees (with_call h x) (next_account a c.event) in
      subst P (sym is) (agrees-step h a c.event now)

  agrees-opening : (capacity : Option ℕ) → Agrees (history_from [] [] [] []) (opening_account capacity)
  agrees-opening capacity =
      record { same = refl; count = refl; settled = refl; drained = refl; sends = refl; asks = refl; withdraws = refl; clears = refl; held = (omega arith, omega arith) }

  played-on : (o : Account T) (es more : List (Event T)) → played o (es ++ more) ≡ played (played o es) more
  played-on o [] more = refl
  played-on o (x ∷ es) more = played-on (next_account o x) es more

  -- the account to which these calls' events lead from this one
  abbrev pub account_by : Account T → List (Call T) → Account T
  account_by a [] = a
  account_by a (c ∷ cs) = account_by (next_account a c.event) cs

  pub record EndsAsTold (h : PairedHistory T) (a : Account T) (cs : List (Call T)) (end : Account T) : Type 0 where
    pub agrees : Agrees (with_calls h cs) end
    pub line : end.line ≡ after a.line cs
    pub replies : end.replies ≡ a.replies ++ replies_by a.handles cs
    pub cleared : end.cleared ≡ a.cleared ++ all_cleared cs
    pub plays : (o : Account T) → a ≡ played o h.events → end ≡ played o (with_calls h cs).events

  ends-as-told : (h : PairedHistory T) (a : Account T) (cs : List (Call T)) → Agrees h a → AreTold a.line cs → EndsAsTold h a cs (account_by a cs)
  ends-as-told h a [] now told =
      record { agrees = now; line = refl; replies = sym (append-nil a.replies); cleared = sym (append-nil a.cleared); plays = λ o is. is }
  ends-as-told h a (c ∷ cs) now told =
      let e = c.event in
      let t = made a.handles a.line e in
      let k = as_step a.handles a.line e now.held in
      let rest = ends-as-told (with_call h c) (next_account a e) cs (agrees-next h a c now told.0) (subst (λ l. AreTold l cs) (sym k.line) told.1) in
      let reply = reply_told a.handles a.line c now.held told.0 in
      let cleared : t.cleared ≡ c.cleared = k.cleared ∙ sym (ap (λ (x : Call T). x.cleared) told.0) in
      record {
        agrees = rest.agrees;
        line = rest.line ∙ ap (λ l. after l cs) k.line;
        replies =
            rest.replies
            ∙ (ap (λ r. (a.replies ++ r ∷ []) ++ replies_by (handles_after a.handles e r) cs) reply
            ∙ append_assoc a.replies (reply_by a.handles c ∷ []) (replies_by (handles_after a.handles e (reply_by a.handles c)) cs));
        cleared = rest.cleared ∙ (ap (λ xs. (a.cleared ++ xs) ++ all_cleared cs) cleared ∙ append_assoc a.cleared c.cleared (all_cleared cs));
        plays = λ o is. rest.plays o (ap (λ x. next_account x e) is ∙ sym (played-on o h.events (e ∷ [])));
      }

  -- where the same tickets are gone, the same messages and demands are kept
  module _ (h other : PairedHistory T) (gone : (t : ℕ) → is_gone other t ≡ is_gone h t) where
    same-sends : (xs : List (T × Option ℕ)) → filter (send_stays other) xs ≡ filter (send_stays h) xs
    same-sends [] = refl
    same-sends ((m, None) ∷ xs) = ap (λ ys. (m, None) ∷ ys) (same-sends xs)
    same-sends ((m, Some t) ∷ xs) =
        elim (cases_Bool (is_gone h t)) [
          | inl g ↦ rw (gone t, g) (same-sends xs)
          | inr g ↦ rw (gone t, g) (ap (λ ys. (m, Some t) ∷ ys) (same-sends xs))
        ]

    same-demands : (ds : List (Demand T)) → filter (demand_stays other) ds ≡ filter (demand_stays h) ds
    same-demands [] = refl
    same-demands (AtOnce m ∷ ds) = ap (λ ys. AtOnce m ∷ ys) (same-demands ds)
    same-demands (Next ∷ ds) = ap (λ ys. Next ∷ ys) (same-demands ds)
    same-demands (Later t ∷ ds) =
        elim (cases_Bool (is_gone h t)) [
          | inl g ↦ rw (gone t, g) (same-demands ds)
          | inr g ↦ rw (gone t, g) (ap (λ ys. Later t ∷ ys) (same-demands ds))
        ]

  module _ (h : PairedHistory T) (a : Account T) (now : Agrees h a) where
    abbrev other : PairedHistory T
    other = told_history h.events a

    same-gone : (t : ℕ) → is_gone other t ≡ is_gone h t
    same-gone t =
        ap (λ us. list_any (λ u. u == t) us || list_any (λ (s : Settlement T). (s.ticket == t) && is_ended s.outcome) a.settled) now.withdraws
        ∙ ap (λ ss. list_any (λ u. u == t) (along withdrawn_ticket h.events h.replies) || list_any (λ (s : Settlement T). (s.ticket == t) && is_ended s.outcome) ss) now.settled

    pub same_kept : kept other ≡ kept h
    same_kept =
        let n = sum_by cleared_by h.replies in
        ap (λ k. without_last k (map (λ (s : T × Option ℕ). s.0) (filter (send_stays other) (along sent h.events a.replies)))) now.clears
        ∙ (ap (λ xs. without_last n (map (λ (s : T × Option ℕ). s.0) (filter (send_stays other) xs))) now.sends
        ∙ ap (λ ys. without_last n (map (λ (s : T × Option ℕ). s.0) ys)) (same-sends h other same-gone (along sent h.events h.replies)))

    pub same_demands : demands other ≡ demands h
    same_demands = ap (λ ds. filter (demand_stays other) ds) now.asks ∙ same-demands h other same-gone (along asked h.events h.replies)

  -- where the account's receives stay over, so do those of the history
  final-in : (capacity : Option ℕ) (log : List (Call T)) → IsLegal capacity log → (a : Account T) → Leads (opening_account capacity) (history_of log).events a → a.replies ≡ replies_by live log
      → StaysOver (history_of log).events (history_of log).replies
  final-in capacity log legal a l is =
      let es = with_events (history_from [] [] [] []) log in
      let first : StaysOver (events_of log) (replies_by live log) =
      subst (λ xs. StaysOver xs (replies_by live log)) es (subst (λ rs. StaysOver (history_of log).events rs) is (final-after capacity (history_of log).events a l)) in
      let now = stays_over live (opening_line capacity) log (omega arith, omega arith) legal first in
      subst (λ xs. StaysOver xs (history_of log).replies) (sym es) (subst (λ rs. StaysOver (events_of log) rs) (sym (with_replies (history_from [] [] [] []) log)) now)

  -- the events of a legal history lead to what its calls were told
  pub leads_as_told : (capacity : Option ℕ) (log : List (Call T)) → IsLegal capacity log → LeadsAsTold capacity log
  leads_as_told capacity log legal =
      let o : Account T = opening_account capacity in
      let end = account_by o log in
      let k = ends-as-told (history_from [] [] [] []) o log (agrees-opening capacity) legal in
      let P : Account T → Type 0 = λ b. EndsAsTold (history_from [] [] [] []) o log b in
      let there : P (account_after capacity log) = subst P (k.plays o refl) k in
      let now = there.agrees in
      let leads = leads-played o (history_of log).events in
      record {
        leads = leads;
        line = there.line;
        settled = now.settled;
        drained = now.drained;
        cleared = there.cleared;
        replies = there.replies;
        kept = same_kept (history_of log) (account_after capacity log) now;
        demands = same_demands (history_of log) (account_after capacity log) now;
        withdrawn = now.withdraws;
        senders = subst (λ (l : Line T). l.senders ≤ (account_after capacity log).handles.tx) there.line now.held.0;
        receivers = subst (λ (l : Line T). l.receivers ≤ (account_after capacity log).handles.rx) there.line now.held.1;
        over = final-in capacity log legal (account_after capacity log) leads there.replies;
      }
