-- What the history says of each message that entered, one step later.
use Rattle.kanal_journal.proofs.Common.{◌≡◌, ℕ, Bool, true, false, not, cond, ◌==◌, ◌&&◌, ◌||◌, List, [], ◌∷◌, ◌++◌, length, map, filter, Option, Some, None, refl, sym, ap, inl, inr, arith, append-nil, append_assoc, list_any, cases_Bool, list_any-append, Event, Reply, Outcome, Taken, Settlement, LineEntry, bare, PairedHistory, along, sent, withdrawn_ticket, is_ended, is_gone, send_stays}

pub along-last : {E R X : Type 0} (f : E → R → List X) (es : List E) (rs : List R) (e : E) (r : R) → length es ≡ length rs → along f (es ++ e ∷ []) (rs ++ r ∷ []) ≡ along f es rs ++ f e r
along-last f [] [] e r h = append-nil (f e r)
along-last f [] (s ∷ rs) e r h = absurd (omega arith)
along-last f (d ∷ es) [] e r h = absurd (omega arith)
along-last f (d ∷ es) (s ∷ rs) e r h = rw (along-last f es rs e r (omega arith)) (sym (append_assoc (f d s) (along f es rs) (f e r)))

or_swap : (a b c d : Bool) → ((a || b) || (c || d)) ≡ ((a || c) || (b || d))
or_swap true b c d = refl
or_swap false true true d = refl
or_swap false true false d = refl
or_swap false false c d = refl

module _ {T : Type 0} where
  -- the history with one more step
  abbrev pub longer : PairedHistory T → Event T → Reply T → List (Settlement T) → List T → PairedHistory T
  longer h e r ss ms = record { events = h.events ++ e ∷ []; replies = h.replies ++ r ∷ []; settled = h.settled ++ ss; drained = h.drained ++ ms }

  -- this step withdraws or ends the ticket
  abbrev pub goes : Event T → Reply T → List (Settlement T) → ℕ → Bool
  goes e r ss t = list_any (λ u. u == t) (withdrawn_ticket e r) || list_any (λ s. (s.ticket == t) && is_ended s.outcome) ss

  abbrev pub is_take : Outcome T → Bool
  is_take Taken = true
  is_take outcome = false

  abbrev pub was_taken : List (Settlement T) → ℕ → Bool
  was_taken ss t = list_any (λ s. (s.ticket == t) && is_take s.outcome) ss

  -- the message and the ticket with which it still waits
  abbrev pub ticket_at : List (Settlement T) → Option ℕ → Option ℕ
  ticket_at ss None = None
  ticket_at ss (Some t) = cond (was_taken ss t) None (Some t)

  abbrev pub entry_at : List (Settlement T) → T × Option ℕ → LineEntry T
  entry_at ss s = record { message = s.0; ticket = ticket_at ss s.1 }

  abbrev pub entries : PairedHistory T → List (LineEntry T)
  entries h = map (entry_at h.settled) (filter (send_stays h) (along sent h.events h.replies))

  -- one step's effect on an entry
  abbrev pub ticket_stays : Event T → Reply T → List (Settlement T) → Option ℕ → Bool
  ticket_stays e r ss None = true
  ticket_stays e r ss (Some t) = not (goes e r ss t)

  abbrev pub later : List (Settlement T) → LineEntry T → LineEntry T
  later ss e = record { message = e.message; ticket = ticket_at ss e.ticket }

  abbrev pub fresh : T × Option ℕ → LineEntry T
  fresh s = record { message = s.0; ticket = s.1 }

  module _ (h : PairedHistory T) (e : Event T) (r : Reply T) (ss : List (Settlement T)) (ms : List T) (same : length h.events ≡ length h.replies) where
    pub gone-last : (t : ℕ) → is_gone (longer h e r ss ms) t ≡ (is_gone h t || goes e r ss t)
    gone-last t =
        rw (along-last withdrawn_ticket h.events h.replies e r same, list_any-append, list_any-append)
        (or_swap (list_any (λ u. u == t) (along withdrawn_ticket h.events h.replies)) (list_any (λ u. u == t) (withdrawn_ticket e r)) (list_any (λ s. (s.ticket == t) && is_ended s.outcome) h.settled) (list_any (λ s. (s.ticket == t) && is_ended s.outcome) ss))

    pub taken-last : (t : ℕ) → was_taken (h.settled ++ ss) t ≡ (was_taken h.settled t || was_taken ss t)
    taken-last t = list_any-append _ h.settled ss

    module _ (once : (t : ℕ) → was_taken h.settled t ≡ true → goes e r ss t ≡ false) where
      pub entries_old : (xs : List (T × Option ℕ)) → map (entry_at (h.settled ++ ss)) (filter (send_stays (longer h e r ss ms)) xs)
          ≡ map (later ss) (filter (λ x. ticket_stays e r ss x.ticket) (map (entry_at h.settled) (filter (send_stays h) xs)))
      entries_old [] = refl
      entries_old ((m, None) ∷ xs) = ap (λ ys. bare m ∷ ys) (entries_old xs)
      entries_old ((m, Some t) ∷ xs) =
          let rec = entries_old xs in
          elim (cases_Bool (is_gone h t)) [
            | inl g ↦ rw (gone-last t, g) rec
            | inr g ↦
                elim (cases_Bool (was_taken h.settled t)) [
                  | inl w ↦ rw (gone-last t, g, once t w, taken-last t, w) (ap (λ ys. bare m ∷ ys) rec)
                  | inr w ↦
                      elim (cases_Bool (goes e r ss t)) [
                        | inl o ↦ rw (gone-last t, g, o, w, o) rec
                        | inr o ↦ rw (gone-last t, g, o, taken-last t, w, o) (ap (λ ys. record { message = m; ticket = cond (was_taken ss t) None (Some t) } ∷ ys) rec)
                      ]
                ]
          ]
