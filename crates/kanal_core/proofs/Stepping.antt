-- Each call of the core, as a step of its line.
use Rattle.kanal_core.proofs.Common.{◌≡◌, ℕ, ◌+◌, ◌≤◌, ◌⊎◌, suc, true, false, not, List, [], ◌∷◌, ◌++◌, length, map, filter, take, drop, Option, Some, None, IfSome, MatchOption, refl, ap, ◌∙◌, inl, inr, arith, append-nil, append_assoc, length-append, option_map, filter_map-append, cases_Bool, nat_tests, length-map, Taken, Given, Ticket, Waiter, LineEntry, bare, waiting, tickets, is_below, has, has_place, holds_ticket, found, IsWithin, Moved, enter, leave, wait_send, wait_recv, ChannelView, line_of, entry_of, demand_of, same_ticket, waiter_of, without, IsPlaced, receiver_first, sender_first, Enters, TakesFront, MovesTo, Withdraws, AllSend, AllReceive, Rises, IsOneSided}
use Rattle.kanal_core.proofs.Bare.{leave-bare}
use Rattle.kanal_core.proofs.Sides.{entries, demands, receive-entries, send-demands, sends-without, receives-without, beyond-found, beyond-has, finds-send, finds-receive}
use Rattle.kanal_core.proofs.Sided.{serve-nothing, no-demand, no-entry}

pub not-there : {T W : Type 0} (t : Ticket) (ws : List (Waiter T W)) → waiter_of t ws ≡ None → without t ws ≡ ws
not-there t [] e = refl
not-there t (w ∷ ws) e =
    elim (cases_Bool (same_ticket w.ticket t)) [
      | inl h ↦ absurd (cc (rw h at e))
      | inr h ↦ rw h (ap (λ xs. w ∷ xs) (not-there t ws (rw h at e)))
    ]

pub is_below-more : (a b : ℕ) (c : Option ℕ) → a ≤ b → is_below a c ≡ false → is_below b c ≡ false
is_below-more a b None h f = f
is_below-more a b (Some c) h f = grind (arith, nat_tests)

module _ {T : Type 0} where
  take-one-more : (rest : List T) (x : LineEntry T) (es : List (LineEntry T)) → take (suc (length rest)) (map bare rest ++ x ∷ es) ≡ map bare rest ++ x ∷ []
  take-one-more [] x es = refl
  take-one-more (m ∷ rest) x es = ap (λ xs. bare m ∷ xs) (take-one-more rest x es)

  drop-one-more : (rest : List T) (x : LineEntry T) (es : List (LineEntry T)) → drop (suc (length rest)) (map bare rest ++ x ∷ es) ≡ es
  drop-one-more [] x es = refl
  drop-one-more (m ∷ rest) x es = drop-one-more rest x es

  seat-one-more : (rest : List T) (m : T) (t : ℕ) → map (λ (e : LineEntry T). bare e.message) (map bare rest ++ waiting m t ∷ []) ≡ map bare (rest ++ m ∷ [])
  seat-one-more [] m t = refl
  seat-one-more (x ∷ rest) m t = ap (λ xs. bare x ∷ xs) (seat-one-more rest m t)

  ticket-one-more : (rest : List T) (m : T) (t : ℕ) → tickets (map bare rest ++ waiting m t ∷ []) ≡ t ∷ []
  ticket-one-more [] m t = refl
  ticket-one-more (x ∷ rest) m t = ticket-one-more rest m t

  bare-found : (n : ℕ) (ms : List T) (es : List (LineEntry T)) → found n (map bare ms ++ es) ≡ found n es
  bare-found n [] es = refl
  bare-found n (m ∷ ms) es = bare-found n ms es

  bare-without : (n : ℕ) (ms : List T) (es : List (LineEntry T)) → filter (λ e. not (holds_ticket n e)) (map bare ms ++ es) ≡ map bare ms ++ filter (λ e. not (holds_ticket n e)) es
  bare-without n [] es = refl
  bare-without n (m ∷ ms) es = ap (λ xs. bare m ∷ xs) (bare-without n ms es)

module _ {T W : Type 0} (c : Option ℕ) (s r n : ℕ) where
  -- a channel with this buffer and these waiters
  abbrev pub row : List T → List (Waiter T W) → ChannelView T W
  row ms ws = record { buffer = ms; waiters = ws; capacity = c; senders = s; receivers = r; next = n }

  module _ (first : Waiter T W) (new : List (Waiter T W)) (m : T) where
    handed-moves : first.message ≡ None → AllReceive new → MovesTo (enter (line_of (row [] (first ∷ new))) m) ((first.ticket.number, Given m) ∷ []) (line_of (row [] new))
    handed-moves e a = rw (e, receive-entries new a) (ap (λ (k : Moved T). record k { settled = (first.ticket.number, Given m) ∷ k.settled }) (serve-nothing (record (line_of (row [] new)) { demands = first.ticket.number ∷ demands new }) (demands new)))

    handed-place : first.message ≡ None → has_place (line_of (row [] (first ∷ new))) ≡ true
    handed-place e = rw e refl

    pub enters-handed : (r ≡ 0 → ⊥) → (s ≡ 0 → ⊥) → first.message ≡ None → AllReceive new → Enters (line_of (row [] (first ∷ new))) m ((first.ticket.number, Given m) ∷ []) (line_of (row [] new))
    enters-handed some_receiver some_sender e a = record { receiver = some_receiver; sender = some_sender; place = handed-place e; moves = handed-moves e a }

-- the front is taken, and nobody waits
pub takes-alone : {T : Type 0} (W : Type 0) (c : Option ℕ) (s r n : ℕ) (m : T) (ms : List T) → (r ≡ 0 → ⊥) → TakesFront (line_of (row {W = W} c s r n (m ∷ ms) [])) m [] (line_of (row {W = W} c s r n ms []))
takes-alone W c s r n m ms some_receiver =
    record {
      front = bare m;
      rest = map bare ms ++ [];
      receiver = some_receiver;
      was = refl;
      message = refl;
      moves = rw append-nil (leave-bare (line_of (row {W = W} c s r n (m ∷ ms) [])) m ms);
    }

-- the front is taken where there is one, and nobody waits
pub popped : {T : Type 0} (W A B : Type 0) (c : Option ℕ) (s r n : ℕ) (ms new : List T) (ws : List (Waiter T W)) (got : Option T) → (r ≡ 0 → ⊥) → ws ≡ [] → MatchOption got ((ms ≡ []) × A) (λ m. (ms ≡ m ∷ new) × B) → IfSome got (λ m. TakesFront (line_of (row c s r n ms ws)) m [] (line_of (row c s r n new ws)))
popped W A B c s r n ms new ws None some_receiver alone e = tt
popped W A B c s r n ms new ws (Some m) some_receiver alone e = rw (alone, e.0) (takes-alone W c s r n m new some_receiver)

module _ {T W : Type 0} (s r n : ℕ) (first : Waiter T W) (new : List (Waiter T W)) (m : T) (sent : T) (e : first.message ≡ Some sent) (a : AllSend new) where
  let-in-moves : (ms : List T) → MovesTo (leave (line_of (row (Some (suc (length ms))) s r n (m ∷ ms) (first ∷ new))) (bare m ∷ []) (map bare ms ++ waiting sent first.ticket.number ∷ entries new)) ((first.ticket.number, Taken) ∷ []) (line_of (row (Some (suc (length ms))) s r n (ms ++ sent ∷ []) new))
  let-in-moves ms =
      rw (take-one-more ms (waiting sent first.ticket.number) (entries new), drop-one-more ms (waiting sent first.ticket.number) (entries new), seat-one-more ms sent first.ticket.number, ticket-one-more ms sent first.ticket.number, e, send-demands new a)
      refl

  pub takes-let-in : (ms : List T) → (r ≡ 0 → ⊥) → TakesFront (line_of (row (Some (suc (length ms))) s r n (m ∷ ms) (first ∷ new))) m ((first.ticket.number, Taken) ∷ []) (line_of (row (Some (suc (length ms))) s r n (ms ++ sent ∷ []) new))
  takes-let-in ms some_receiver =
      record {
        front = bare m;
        rest = map bare ms ++ waiting sent first.ticket.number ∷ entries new;
        receiver = some_receiver;
        was = rw e refl;
        message = refl;
        moves = let-in-moves ms;
      }

  pub takes-waiting : (r ≡ 0 → ⊥) → TakesFront (line_of (row (Some 0) s r n [] (first ∷ new))) sent ((first.ticket.number, Taken) ∷ []) (line_of (row (Some 0) s r n [] new))
  takes-waiting some_receiver =
      record {
        front = waiting sent first.ticket.number;
        rest = entries new;
        receiver = some_receiver;
        was = rw e refl;
        message = refl;
        moves = rw (e, send-demands new a) refl;
      }

module _ {T W : Type 0} (c : Option ℕ) (s r n : ℕ) (ms : List T) (ws : List (Waiter T W)) (side : IsOneSided ms c ws) (within : IsWithin (length ms) c) where
  -- at a full buffer without a waiting receiver, a message has no place
  pub no-place : receiver_first ws ≡ false → is_below (length ms) c ≡ false → has_place (line_of (row c s r n ms ws)) ≡ false
  no-place first full =
      let longer : length ms ≤ length (map bare ms ++ entries ws) = omega (arith, simp length-map at (length-append (map bare ms) (entries ws))) in
      rw (no-demand ms c ws side within first) (is_below-more (length ms) (length (map bare ms ++ entries ws)) c longer full)

  pub no-line : ms ≡ [] → sender_first ws ≡ false → (line_of (row c s r n ms ws)).line ≡ []
  no-line none first = rw (none, no-entry ms c ws side within first) refl

  -- a waiting sender joins
  pub waits-send : (t : Ticket) (m : T) (w : W) → t.number ≡ n → line_of (row c s r (n + 1) ms (ws ++ record { ticket = t; message = Some m; w = w } ∷ [])) ≡ wait_send (line_of (row c s r n ms ws)) m
  waits-send t m w e =
      rw (filter_map-append (entry_of {T = T} {W = W}) ws (record { ticket = t; message = Some m; w = w } ∷ []), filter_map-append (demand_of {T = T} {W = W}) ws (record { ticket = t; message = Some m; w = w } ∷ []), append-nil, e, append_assoc) refl

  pub waits-recv : (t : Ticket) (w : W) → t.number ≡ n → line_of (row c s r (n + 1) ms (ws ++ record { ticket = t; message = None; w = w } ∷ [])) ≡ wait_recv (line_of (row c s r n ms ws))
  waits-recv t w e =
      rw (filter_map-append (entry_of {T = T} {W = W}) ws (record { ticket = t; message = None; w = w } ∷ []), filter_map-append (demand_of {T = T} {W = W}) ws (record { ticket = t; message = None; w = w } ∷ []), append-nil, e) refl

module _ {T W : Type 0} (c : Option ℕ) (s r n : ℕ) (ms : List T) (ws : List (Waiter T W)) (t : Ticket) where
  send-found : (rises : Rises 0 ws n) (placed : IsPlaced t ws) (a : AllSend ws) (o : Option (Waiter T W)) → waiter_of t ws ≡ o → Withdraws (line_of (row c s r n ms ws)) t (option_map (λ (w : Waiter T W). w.message) o) (line_of (row c s r n ms (without t ws)))
  send-found rises placed a None e =
      let f = finds-send t 0 ws n rises placed a in
      let nothing : found t.number (entries ws) ≡ [] = f.none e in
      let still : without t ws ≡ ws = not-there t ws e in
      (bare-found t.number ms (entries ws) ∙ nothing, rw (send-demands ws a) refl, ap (λ xs. line_of (row c s r n ms xs)) still)
  send-found rises placed a (Some w) e =
      let f = finds-send t 0 ws n rises placed a in
      let it = f.some w e in
      rw it.1 (
        bare-found t.number ms (entries ws) ∙ it.2,
        rw (f.left, bare-without t.number ms (entries ws), send-demands ws a, send-demands (without t ws) (sends-without t ws a)) refl,
      )

  receive-found : (rises : Rises 0 ws n) (placed : IsPlaced t ws) (a : AllReceive ws) (o : Option (Waiter T W)) → waiter_of t ws ≡ o → Withdraws (line_of (row c s r n ms ws)) t (option_map (λ (w : Waiter T W). w.message) o) (line_of (row c s r n ms (without t ws)))
  receive-found rises placed a None e =
      let f = finds-receive t 0 ws n rises placed a in
      let still : without t ws ≡ ws = not-there t ws e in
      (bare-found t.number ms (entries ws) ∙ rw (receive-entries ws a) refl, f.none e, ap (λ xs. line_of (row c s r n ms xs)) still)
  receive-found rises placed a (Some w) e =
      let f = finds-receive t 0 ws n rises placed a in
      let it = f.some w e in
      rw it.0 (
        bare-found t.number ms (entries ws) ∙ rw (receive-entries ws a) refl,
        it.1,
        rw (f.left, receive-entries ws a, receive-entries (without t ws) (receives-without t ws a)) refl,
      )

  -- a number that was not given waits nowhere
  pub not-given : (u : ℕ) → n ≤ u → Rises 0 ws n → IsOneSided ms c ws → (found u (line_of (row c s r n ms ws)).line ≡ []) × (has u (line_of (row c s r n ms ws)).demands ≡ false)
  not-given u h rises (inl none) = (rw none (bare-found u ms []), rw none refl)
  not-given u h rises (inr (inl send)) = (bare-found u ms (entries ws) ∙ beyond-found u 0 ws n h rises send.0, rw (send-demands ws send.0) refl)
  not-given u h rises (inr (inr receive)) = (bare-found u ms (entries ws) ∙ rw (receive-entries ws receive.0) refl, beyond-has u 0 ws n h rises receive.0)

  -- messages and demands are never there together
  pub one-side : IsOneSided ms c ws → ((line_of (row c s r n ms ws)).line ≡ []) ⊎ ((line_of (row c s r n ms ws)).demands ≡ [])
  one-side (inl none) = inr (rw none refl)
  one-side (inr (inl send)) = inr (send-demands ws send.0)
  one-side (inr (inr receive)) = inl (rw (receive.1, receive-entries ws receive.0) refl)

  -- a sender waits only while the buffer is full
  pub waits-full : IsOneSided ms c ws → ((line_of (row c s r n ms ws)).line ≡ map bare ms) ⊎ (c ≡ Some (length ms))
  waits-full (inl none) = inl (rw (none, append-nil) refl)
  waits-full (inr (inl send)) = inr send.1
  waits-full (inr (inr receive)) = inl (rw (receive-entries ws receive.0, append-nil) refl)

  pub withdraws : (rises : Rises 0 ws n) → IsPlaced t ws → IsOneSided ms c ws → Withdraws (line_of (row c s r n ms ws)) t (option_map (λ (w : Waiter T W). w.message) (waiter_of t ws)) (line_of (row c s r n ms (without t ws)))
  withdraws rises placed (inl none) = receive-found rises placed (rw none tt) (waiter_of t ws) refl
  withdraws rises placed (inr (inl send)) = send-found rises placed send.0 (waiter_of t ws) refl
  withdraws rises placed (inr (inr receive)) = receive-found rises placed receive.0 (waiter_of t ws) refl
