-- One side waits at most after each call, too.
use Rattle.kanal_core.proofs.Common.{◌≡◌, ℕ, ◌+◌, suc, false, List, [], ◌∷◌, ◌++◌, length, map, Option, Some, None, refl, sym, ap, ◌∙◌, subst, inl, inr, arith, append-nil, length-append, false≢true, nat_tests, length-map, Ticket, Waiter, bare, is_below, has_place, IsWithin, line_of, without, with_w, AllSend, AllReceive, Rises, IsOneSided}
use Rattle.kanal_core.proofs.Sides.{entries, sends-last, receives-last, rises-last, rises-less, sends-without, receives-without, sends-with, receives-with}
use Rattle.kanal_core.proofs.Stepping.{row}

capacity-is : (k : ℕ) (c : Option ℕ) → IsWithin k c → is_below k c ≡ false → c ≡ Some k
capacity-is k None w f = absurd (false≢true (sym f))
capacity-is k (Some d) w f = let e : d ≡ k = grind (arith, nat_tests) in ap (λ x. Some x) e

module _ {T W : Type 0} where
  pub rises-tail : (first : Waiter T W) (new : List (Waiter T W)) (next : ℕ) → Rises 0 (first ∷ new) next → Rises 0 new next
  rises-tail first new next r = rises-less (first.ticket.number + 1) 0 new next (omega arith) r.1

  pub rises-wait : (ws : List (Waiter T W)) (w : Waiter T W) (n : ℕ) → w.ticket.number ≡ n → Rises 0 ws n → Rises 0 (ws ++ w ∷ []) (n + 1)
  rises-wait ws w n e r =
      let P : ℕ → Type 0 = λ k. Rises 0 (ws ++ w ∷ []) (k + 1) in
      let Q : ℕ → Type 0 = λ k. Rises 0 ws k in
      subst P e (rises-last 0 ws w (subst Q (sym e) r))

  pub side-tail : (ms : List T) (c : Option ℕ) (first : Waiter T W) (new : List (Waiter T W)) → IsOneSided ms c (first ∷ new) → IsOneSided ms c new
  side-tail ms c first new (inl none) = absurd (cc)
  side-tail ms c first new (inr (inl send)) = inr (inl (send.0.2, send.1))
  side-tail ms c first new (inr (inr receive)) = inr (inr (receive.0.1, receive.1))

  pub side-let-in : (m sent : T) (ms : List T) (c : Option ℕ) (first : Waiter T W) (new : List (Waiter T W)) → AllSend new → c ≡ Some (length (m ∷ ms)) → IsOneSided (ms ++ sent ∷ []) c new
  side-let-in m sent ms c first new a e = let long : length (ms ++ sent ∷ []) ≡ suc (length ms) = omega (arith, length-append ms (sent ∷ [])) in inr (inl (a, e ∙ ap (λ k. Some k) (sym long)))

  pub side-without : (t : Ticket) (ms : List T) (c : Option ℕ) (ws : List (Waiter T W)) → IsOneSided ms c ws → IsOneSided ms c (without t ws)
  side-without t ms c ws (inl none) = inl (rw none refl)
  side-without t ms c ws (inr (inl send)) = inr (inl (sends-without t ws send.0, send.1))
  side-without t ms c ws (inr (inr receive)) = inr (inr (receives-without t ws receive.0, receive.1))

  pub side-with : (t : Ticket) (v : W) (ms : List T) (c : Option ℕ) (ws : List (Waiter T W)) → IsOneSided ms c ws → IsOneSided ms c (with_w t v ws)
  side-with t v ms c ws (inl none) = inl (rw none refl)
  side-with t v ms c ws (inr (inl send)) = inr (inl (sends-with t v ws send.0, send.1))
  side-with t v ms c ws (inr (inr receive)) = inr (inr (receives-with t v ws receive.0, receive.1))

  no-place-send : (s r n : ℕ) (ms : List T) (c : Option ℕ) (ws : List (Waiter T W)) → IsOneSided ms c ws → IsWithin (length ms) c → has_place (line_of (row c s r n ms ws)) ≡ false → AllSend ws × (c ≡ Some (length ms))
  no-place-send s r n ms c [] side within f = (tt, capacity-is (length ms) c within (subst (λ k. is_below k c ≡ false) (ap length (append-nil (map bare ms)) ∙ simp length-map refl) f))
  no-place-send s r n ms c (w ∷ ws) (inl none) within f = absurd (cc)
  no-place-send s r n ms c (w ∷ ws) (inr (inl send)) within f = send
  no-place-send s r n ms c (w ∷ ws) (inr (inr receive)) within f = absurd (false≢true (sym (rw receive.0.0 at f)))

  -- senders wait behind a sender that found no place
  pub side-wait-send : (s r n : ℕ) (ms : List T) (c : Option ℕ) (ws : List (Waiter T W)) (t : Ticket) (m : T) (w : W) → IsOneSided ms c ws → IsWithin (length ms) c → has_place (line_of (row c s r n ms ws)) ≡ false → IsOneSided ms c (ws ++ record { ticket = t; message = Some m; w = w } ∷ [])
  side-wait-send s r n ms c ws t m w side within f =
      let send = no-place-send s r n ms c ws side within f in
      inr (inl (sends-last ws (record { ticket = t; message = Some m; w = w }) m refl send.0, send.1))

  empty-receive : (ms : List T) (c : Option ℕ) (ws : List (Waiter T W)) → IsOneSided ms c ws → map bare ms ++ entries ws ≡ [] → AllReceive ws × (ms ≡ [])
  empty-receive (x ∷ ms) c ws side e = absurd (cc)
  empty-receive [] c [] side e = (tt, refl)
  empty-receive [] c (w ∷ ws) (inl none) e = absurd (cc)
  empty-receive [] c (w ∷ ws) (inr (inl send)) e = absurd (cc (rw send.0.1 at e))
  empty-receive [] c (w ∷ ws) (inr (inr receive)) e = receive

  -- receivers wait behind a receiver that found no message
  pub side-wait-recv : (ms : List T) (c : Option ℕ) (ws : List (Waiter T W)) (t : Ticket) (w : W) → IsOneSided ms c ws → map bare ms ++ entries ws ≡ [] → IsOneSided ms c (ws ++ record { ticket = t; message = None; w = w } ∷ [])
  side-wait-recv ms c ws t w side e =
      let receive = empty-receive ms c ws side e in
      inr (inr (receives-last ws (record { ticket = t; message = None; w = w }) refl receive.0, receive.1))
