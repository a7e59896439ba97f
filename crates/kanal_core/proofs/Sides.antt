-- The waiters of one side, as entries or as demands of the line.
use Rattle.kanal_core.proofs.Common.{◌≡◌, ℕ, ◌+◌, ◌≤◌, ◌<◌, true, false, not, eqb, List, [], ◌∷◌, ◌++◌, map, filter, Option, Some, None, refl, sym, ap, ◌∙◌, inl, inr, arith, filter_map, cons_option, option_map, cases_Bool, eq-eqb, ne_eqb, Reason, Outcome, Ended, Ticket, Waiter, LineEntry, waiting, messages, has, holds_ticket, found, ended_entry, entry_of, demand_of, ended_by, settlement, waiter_of, without, with_w, same_ticket, brought, IsPlaced, AllSend, AllReceive, Rises}

brought-cons : {T : Type 0} (o : Option T) (n : ℕ) (rest : List (LineEntry T)) (ms : List T) → messages rest ≡ ms → messages (cons_option (option_map (λ m. waiting m n) o) rest) ≡ cons_option o ms
brought-cons None n rest ms h = h
brought-cons (Some m) n rest ms h = ap (λ xs. m ∷ xs) h

module _ {T W : Type 0} where
  -- the entries and the demands of waiters
  abbrev pub entries : List (Waiter T W) → List (LineEntry T)
  entries ws = filter_map entry_of ws

  abbrev pub demands : List (Waiter T W) → List ℕ
  demands ws = filter_map demand_of ws

  pub receive-entries : (ws : List (Waiter T W)) → AllReceive ws → entries ws ≡ []
  receive-entries [] a = refl
  receive-entries (w ∷ ws) a = rw a.0 (receive-entries ws a.1)

  pub send-demands : (ws : List (Waiter T W)) → AllSend ws → demands ws ≡ []
  send-demands [] a = refl
  send-demands (w ∷ ws) a = rw a.1 (send-demands ws a.2)

  pub sends-last : (ws : List (Waiter T W)) (w : Waiter T W) (m : T) → w.message ≡ Some m → AllSend ws → AllSend (ws ++ w ∷ [])
  sends-last [] w m e a = (m, e, tt)
  sends-last (x ∷ ws) w m e a = (a.0, a.1, sends-last ws w m e a.2)

  pub receives-last : (ws : List (Waiter T W)) (w : Waiter T W) → w.message ≡ None → AllReceive ws → AllReceive (ws ++ w ∷ [])
  receives-last [] w e a = (e, tt)
  receives-last (x ∷ ws) w e a = (a.0, receives-last ws w e a.1)

  pub rises-last : (low : ℕ) (ws : List (Waiter T W)) (w : Waiter T W) → Rises low ws w.ticket.number → Rises low (ws ++ w ∷ []) (w.ticket.number + 1)
  rises-last low [] w r = (r, omega arith)
  rises-last low (x ∷ ws) w r = (r.0, rises-last (x.ticket.number + 1) ws w r.1)

  pub rises-less : (low lower : ℕ) (ws : List (Waiter T W)) (next : ℕ) → lower ≤ low → Rises low ws next → Rises lower ws next
  rises-less low lower [] next h r = omega (arith, r)
  rises-less low lower (w ∷ ws) next h r = (omega (arith, r.0), r.1)

  -- the messages of the entries are what the waiters brought
  pub brought-entries : (ws : List (Waiter T W)) → messages (entries ws) ≡ brought ws
  brought-entries [] = refl
  brought-entries (w ∷ ws) = brought-cons w.message w.ticket.number (entries ws) (brought ws) (brought-entries ws)

  -- ends of waiting senders, and of waiting receivers
  pub ends-send : (reason : Reason) (ws : List (Waiter T W)) → AllSend ws → filter_map (ended_entry reason) (entries ws) ≡ map settlement (map (ended_by reason) ws)
  ends-send reason [] a = refl
  ends-send reason (w ∷ ws) a = rw a.1 (ap (λ xs. (w.ticket.number, Ended reason (Some a.0)) ∷ xs) (ends-send reason ws a.2))

  pub ends-receive : (reason : Reason) (ws : List (Waiter T W)) → AllReceive ws → map {B = ℕ × Outcome T} (λ t. (t, Ended reason None)) (demands ws) ≡ map settlement (map (ended_by reason) ws)
  ends-receive reason [] a = refl
  ends-receive reason (w ∷ ws) a = rw a.0 (ap (λ xs. (w.ticket.number, Ended reason None) ∷ xs) (ends-receive reason ws a.1))

  -- a list without one of its waiters keeps what all of them are
  pub sends-without : (t : Ticket) (ws : List (Waiter T W)) → AllSend ws → AllSend (without t ws)
  sends-without t [] a = tt
  sends-without t (w ∷ ws) a = elim (cases_Bool (same_ticket w.ticket t)) [ inl e ↦ rw e a.2 | inr e ↦ rw e (a.0, a.1, sends-without t ws a.2) ]

  pub receives-without : (t : Ticket) (ws : List (Waiter T W)) → AllReceive ws → AllReceive (without t ws)
  receives-without t [] a = tt
  receives-without t (w ∷ ws) a = elim (cases_Bool (same_ticket w.ticket t)) [ inl e ↦ rw e a.1 | inr e ↦ rw e (a.0, receives-without t ws a.1) ]

  pub rises-without : (t : Ticket) (low : ℕ) (ws : List (Waiter T W)) (next : ℕ) → Rises low ws next → Rises low (without t ws) next
  rises-without t low [] next r = r
  rises-without t low (w ∷ ws) next r =
      elim (cases_Bool (same_ticket w.ticket t)) [
        | inl e ↦ rw e (rises-less (w.ticket.number + 1) low ws next (omega (arith, r.0)) r.1)
        | inr e ↦ rw e (r.0, rises-without t (w.ticket.number + 1) ws next r.1)
      ]

  -- and so does a list with another W
  pub sends-with : (t : Ticket) (v : W) (ws : List (Waiter T W)) → AllSend ws → AllSend (with_w t v ws)
  sends-with t v [] a = tt
  sends-with t v (w ∷ ws) a = elim (cases_Bool (same_ticket w.ticket t)) [ inl e ↦ rw e (a.0, a.1, a.2) | inr e ↦ rw e (a.0, a.1, sends-with t v ws a.2) ]

  pub receives-with : (t : Ticket) (v : W) (ws : List (Waiter T W)) → AllReceive ws → AllReceive (with_w t v ws)
  receives-with t v [] a = tt
  receives-with t v (w ∷ ws) a = elim (cases_Bool (same_ticket w.ticket t)) [ inl e ↦ rw e (a.0, a.1) | inr e ↦ rw e (a.0, receives-with t v ws a.1) ]

  pub rises-with : (t : Ticket) (v : W) (low : ℕ) (ws : List (Waiter T W)) (next : ℕ) → Rises low ws next → Rises low (with_w t v ws) next
  rises-with t v low [] next r = r
  rises-with t v low (w ∷ ws) next r = elim (cases_Bool (same_ticket w.ticket t)) [ inl e ↦ rw e (r.0, r.1) | inr e ↦ rw e (r.0, rises-with t v (w.ticket.number + 1) ws next r.1) ]

  -- a number below all of them is not there
  pub above-found : (n low : ℕ) (ws : List (Waiter T W)) (next : ℕ) → n < low → Rises low ws next → AllSend ws → (found n (entries ws) ≡ []) × (filter (λ e. not (holds_ticket n e)) (entries ws) ≡ entries ws)
  above-found n low [] next h r a = (refl, refl)
  above-found n low (w ∷ ws) next h r a =
      let rest = above-found n (w.ticket.number + 1) ws next (omega (arith, r.0)) r.1 a.2 in
      let off : eqb w.ticket.number n ≡ false = ne_eqb w.ticket.number n (λ e. absurd (omega (arith, r.0, e))) in
      (rw (a.1, off) rest.0, rw (a.1, off) (ap (λ xs. waiting a.0 w.ticket.number ∷ xs) rest.1))

  pub above-has : (n low : ℕ) (ws : List (Waiter T W)) (next : ℕ) → n < low → Rises low ws next → AllReceive ws → (has n (demands ws) ≡ false) × (filter (λ u. not (eqb u n)) (demands ws) ≡ demands ws)
  above-has n low [] next h r a = (refl, refl)
  above-has n low (w ∷ ws) next h r a =
      let rest = above-has n (w.ticket.number + 1) ws next (omega (arith, r.0)) r.1 a.1 in
      let off : eqb w.ticket.number n ≡ false = ne_eqb w.ticket.number n (λ e. absurd (omega (arith, r.0, e))) in
      (rw (a.0, off) rest.0, rw (a.0, off) (ap (λ xs. w.ticket.number ∷ xs) rest.1))

module _ {T W : Type 0} where
  rises-reach : (low : ℕ) (ws : List (Waiter T W)) (next : ℕ) → Rises low ws next → low ≤ next
  rises-reach low [] next r = r
  rises-reach low (w ∷ ws) next r = omega (arith, r.0, rises-reach (w.ticket.number + 1) ws next r.1)

  -- a number that was not given is not there
  pub beyond-found : (n low : ℕ) (ws : List (Waiter T W)) (next : ℕ) → next ≤ n → Rises low ws next → AllSend ws → found n (entries ws) ≡ []
  beyond-found n low [] next h r a = refl
  beyond-found n low (w ∷ ws) next h r a =
      let off : eqb w.ticket.number n ≡ false = ne_eqb w.ticket.number n (λ e. absurd (omega (arith, rises-reach (w.ticket.number + 1) ws next r.1, e))) in
      rw (a.1, off) (beyond-found n (w.ticket.number + 1) ws next h r.1 a.2)

  pub beyond-has : (n low : ℕ) (ws : List (Waiter T W)) (next : ℕ) → next ≤ n → Rises low ws next → AllReceive ws → has n (demands ws) ≡ false
  beyond-has n low [] next h r a = refl
  beyond-has n low (w ∷ ws) next h r a =
      let off : eqb w.ticket.number n ≡ false = ne_eqb w.ticket.number n (λ e. absurd (omega (arith, rises-reach (w.ticket.number + 1) ws next r.1, e))) in
      rw (a.0, off) (beyond-has n (w.ticket.number + 1) ws next h r.1 a.1)

-- what a ticket finds among waiting senders
pub record FindsSend {T W : Type 0} (t : Ticket) (ws : List (Waiter T W)) (o : Option (Waiter T W)) : Type 0 where
  pub none : o ≡ None → found t.number (entries ws) ≡ []
  pub some : (w : Waiter T W) → o ≡ Some w → (m : T) × (w.message ≡ Some m) × (found t.number (entries ws) ≡ m ∷ [])
  pub left : entries (without t ws) ≡ filter (λ e. not (holds_ticket t.number e)) (entries ws)

pub record FindsReceive {T W : Type 0} (t : Ticket) (ws : List (Waiter T W)) (o : Option (Waiter T W)) : Type 0 where
  pub none : o ≡ None → has t.number (demands ws) ≡ false
  pub some : (w : Waiter T W) → o ≡ Some w → (w.message ≡ None) × (has t.number (demands ws) ≡ true)
  pub left : demands (without t ws) ≡ filter (λ u. not (eqb u t.number)) (demands ws)

module _ {T W : Type 0} (n : ℕ) (w : Waiter T W) (ws : List (Waiter T W)) where
  module _ (m : T) (e : w.message ≡ Some m) where
    send-here : eqb w.ticket.number n ≡ true → found n (entries ws) ≡ [] → found n (entries (w ∷ ws)) ≡ m ∷ []
    send-here h rest = rw (e, h) (ap (λ xs. m ∷ xs) rest)

    send-left : eqb w.ticket.number n ≡ true → filter (λ e. not (holds_ticket n e)) (entries (w ∷ ws)) ≡ filter (λ e. not (holds_ticket n e)) (entries ws)
    send-left h = rw (e, h) refl

    send-on : eqb w.ticket.number n ≡ false → found n (entries (w ∷ ws)) ≡ found n (entries ws)
    send-on h = rw (e, h) refl

    send-stays : eqb w.ticket.number n ≡ false → (xs : List (LineEntry T)) → xs ≡ filter (λ e. not (holds_ticket n e)) (entries ws) → waiting m w.ticket.number ∷ xs ≡ filter (λ e. not (holds_ticket n e)) (entries (w ∷ ws))
    send-stays h xs rest = rw (e, h) (ap (λ ys. waiting m w.ticket.number ∷ ys) rest)

    send-entries : entries (w ∷ ws) ≡ waiting m w.ticket.number ∷ entries ws
    send-entries = rw e refl

  module _ (e : w.message ≡ None) where
    receive-here : eqb w.ticket.number n ≡ true → has n (demands (w ∷ ws)) ≡ true
    receive-here h = rw (e, h) refl

    receive-left : eqb w.ticket.number n ≡ true → filter (λ u. not (eqb u n)) (demands (w ∷ ws)) ≡ filter (λ u. not (eqb u n)) (demands ws)
    receive-left h = rw (e, h) refl

    receive-on : eqb w.ticket.number n ≡ false → has n (demands (w ∷ ws)) ≡ has n (demands ws)
    receive-on h = rw (e, h) refl

    receive-stays : eqb w.ticket.number n ≡ false → (xs : List ℕ) → xs ≡ filter (λ u. not (eqb u n)) (demands ws) → w.ticket.number ∷ xs ≡ filter (λ u. not (eqb u n)) (demands (w ∷ ws))
    receive-stays h xs rest = rw (e, h) (ap (λ ys. w.ticket.number ∷ ys) rest)

    receive-demands : demands (w ∷ ws) ≡ w.ticket.number ∷ demands ws
    receive-demands = rw e refl

module _ {T W : Type 0} (t : Ticket) (w : Waiter T W) (ws : List (Waiter T W)) where
  here : same_ticket w.ticket t ≡ true → waiter_of t (w ∷ ws) ≡ Some w
  here e = rw e refl

  on : same_ticket w.ticket t ≡ false → waiter_of t (w ∷ ws) ≡ waiter_of t ws
  on e = rw e refl

  without-here : same_ticket w.ticket t ≡ true → without t (w ∷ ws) ≡ ws
  without-here e = rw e refl

  without-on : same_ticket w.ticket t ≡ false → without t (w ∷ ws) ≡ w ∷ without t ws
  without-on e = rw e refl

same_number : (a b : Ticket) → same_ticket a b ≡ true → a.number ≡ b.number
same_number a b e = grind arith

same_place : (a b : Ticket) → same_ticket a b ≡ true → a.place ≡ b.place
same_place a b e = grind arith

-- where equal numbers stand at equal places, unequal tickets have unequal numbers
other_number : (a b : Ticket) → (a.number ≡ b.number → a.place ≡ b.place) → same_ticket a b ≡ false → eqb a.number b.number ≡ false
other_number a b placed e = ne_eqb a.number b.number (λ n. let p = placed n in absurd (grind arith))

by_some : {X : Type 0} {a b : X} → Some a ≡ Some b → a ≡ b
by_some e = cc

some_none : {X : Type 0} {a : X} → Some a ≡ None → ⊥
some_none e = cc

module _ {T W : Type 0} where
  -- whose number is above those of a ticket is elsewhere
  placed-above : (t : Ticket) (low : ℕ) (ws : List (Waiter T W)) (next : ℕ) → t.number < low → Rises low ws next → IsPlaced t ws
  placed-above t low [] next h r = tt
  placed-above t low (w ∷ ws) next h r = (λ n. absurd (omega (arith, r.0, n)), placed-above t (w.ticket.number + 1) ws next (omega (arith, r.0)) r.1)

  -- a ticket that somebody waits with has its place
  pub placed-found : (t : Ticket) (low : ℕ) (ws : List (Waiter T W)) (next : ℕ) (x : Waiter T W) → Rises low ws next → waiter_of t ws ≡ Some x → IsPlaced t ws
  placed-found t low [] next x r is = absurd (cc)
  placed-found t low (w ∷ ws) next x r is =
      elim (cases_Bool (same_ticket w.ticket t)) [
        | inl e ↦
            let n : w.ticket.number ≡ t.number = same_number w.ticket t e in
            (λ _. same_place w.ticket t e, placed-above t (w.ticket.number + 1) ws next (omega (arith, n)) r.1)
        | inr e ↦
            let rest = sym (on t w ws e) ∙ is in
            (λ n. absurd (elsewhere t (w.ticket.number + 1) ws next x (omega (arith, n)) r.1 rest), placed-found t (w.ticket.number + 1) ws next x r.1 rest)
      ]
    where
      elsewhere : (t : Ticket) (low : ℕ) (ws : List (Waiter T W)) (next : ℕ) (x : Waiter T W) → t.number < low → Rises low ws next → waiter_of t ws ≡ Some x → ⊥
      elsewhere t low [] next x h r is = cc
      elsewhere t low (w ∷ ws) next x h r is =
          elim (cases_Bool (same_ticket w.ticket t)) [
            | inl e ↦ let n = same_number w.ticket t e in absurd (omega (arith, r.0, n))
            | inr e ↦ elsewhere t (w.ticket.number + 1) ws next x (omega (arith, r.0)) r.1 (sym (on t w ws e) ∙ is)
          ]

  pub finds-send : (t : Ticket) (low : ℕ) (ws : List (Waiter T W)) (next : ℕ) → Rises low ws next → IsPlaced t ws → AllSend ws → FindsSend t ws (waiter_of t ws)
  finds-send t low [] next r p a = record { none = λ e. refl; some = λ w e. absurd (some_none (sym e)); left = refl }
  finds-send t low (w ∷ ws) next r p a =
      elim (cases_Bool (same_ticket w.ticket t)) [
        | inl e ↦
            let n : w.ticket.number ≡ t.number = same_number w.ticket t e in
            let is_it : eqb w.ticket.number t.number ≡ true = eq-eqb w.ticket.number t.number n in
            let rest = above-found t.number (w.ticket.number + 1) ws next (omega (arith, n)) r.1 a.2 in
            record {
              none = λ is. absurd (some_none (sym (here t w ws e) ∙ is));
              some = λ v is. (a.0, ap (λ x. x.message) (sym (by_some (sym (here t w ws e) ∙ is))) ∙ a.1, send-here t.number w ws a.0 a.1 is_it rest.0);
              left = ap entries (without-here t w ws e) ∙ (sym rest.1 ∙ sym (send-left t.number w ws a.0 a.1 is_it));
            }
        | inr e ↦
            let rest = finds-send t (w.ticket.number + 1) ws next r.1 p.1 a.2 in
            let off = other_number w.ticket t p.0 e in
            record {
              none = λ is. send-on t.number w ws a.0 a.1 off ∙ rest.none (sym (on t w ws e) ∙ is);
              some = λ v is. let there = rest.some v (sym (on t w ws e) ∙ is) in (there.0, there.1, send-on t.number w ws a.0 a.1 off ∙ there.2);
              left = ap entries (without-on t w ws e) ∙ (send-entries t.number w (without t ws) a.0 a.1 ∙ send-stays t.number w ws a.0 a.1 off (entries (without t ws)) rest.left);
            }
      ]

  pub finds-receive : (t : Ticket) (low : ℕ) (ws : List (Waiter T W)) (next : ℕ) → Rises low ws next → IsPlaced t ws → AllReceive ws → FindsReceive t ws (waiter_of t ws)
  finds-receive t low [] next r p a = record { none = λ e. refl; some = λ w e. absurd (some_none (sym e)); left = refl }
  finds-receive t low (w ∷ ws) next r p a =
      elim (cases_Bool (same_ticket w.ticket t)) [
        | inl e ↦
            let n : w.ticket.number ≡ t.number = same_number w.ticket t e in
            let is_it : eqb w.ticket.number t.number ≡ true = eq-eqb w.ticket.number t.number n in
            let rest = above-has t.number (w.ticket.number + 1) ws next (omega (arith, n)) r.1 a.1 in
            record {
              none = λ is. absurd (some_none (sym (here t w ws e) ∙ is));
              some = λ v is. (ap (λ x. x.message) (sym (by_some (sym (here t w ws e) ∙ is))) ∙ a.0, receive-here t.number w ws a.0 is_it);
              left = ap demands (without-here t w ws e) ∙ (sym rest.1 ∙ sym (receive-left t.number w ws a.0 is_it));
            }
        | inr e ↦
            let rest = finds-receive t (w.ticket.number + 1) ws next r.1 p.1 a.1 in
            let off = other_number w.ticket t p.0 e in
            record {
              none = λ is. receive-on t.number w ws a.0 off ∙ rest.none (sym (on t w ws e) ∙ is);
              some = λ v is. let there = rest.some v (sym (on t w ws e) ∙ is) in (there.0, receive-on t.number w ws a.0 off ∙ there.1);
              left = ap demands (without-on t w ws e) ∙ (receive-demands t.number w (without t ws) a.0 ∙ receive-stays t.number w ws a.0 off (demands (without t ws)) rest.left);
            }
      ]
