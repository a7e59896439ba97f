-- A drain, as a step of the line.
use Rattle.kanal_core.proofs.Common.{◌≡◌, ℕ, ◌+◌, suc, false, cond, List, [], ◌∷◌, ◌++◌, length, map, Option, Some, None, refl, sym, ap, ◌∙◌, inl, inr, arith, append-nil, length-append, cases_Bool, false≢true, length-map, map-append, Taken, Waiter, LineEntry, bare, messages, tickets, IsWithin, drain, taken, after_drain, line_of, settlement, taken_by, brought, sender_first, MovesTo, AllSend, IsOneSided, Rises}
use Rattle.kanal_core.proofs.Bare.{messages-bare}
use Rattle.kanal_core.proofs.Sides.{entries, send-demands, brought-entries}
use Rattle.kanal_core.proofs.Sided.{no-entry, sender-side}
use Rattle.kanal_core.proofs.Stepping.{row}

-- nothing is within every limit
pub none-within : (c : Option ℕ) → IsWithin 0 c
none-within None = tt
none-within (Some c) = omega arith

module _ {T : Type 0} where
  tickets-behind : (ms : List T) (es : List (LineEntry T)) → tickets (map bare ms ++ es) ≡ tickets es
  tickets-behind [] es = refl
  tickets-behind (m ∷ ms) es = tickets-behind ms es

module _ {T W : Type 0} where
  takes-send : (ws : List (Waiter T W)) → AllSend ws → taken (entries ws) ≡ map settlement (map taken_by ws)
  takes-send [] a = refl
  takes-send (w ∷ ws) a = rw a.1 (ap (λ xs. (w.ticket.number, Taken) ∷ xs) (takes-send ws a.2))

  long-send : (ws : List (Waiter T W)) → AllSend ws → length (entries ws) ≡ length ws
  long-send [] a = refl
  long-send (w ∷ ws) a = rw a.1 (ap (λ k. suc k) (long-send ws a.2))

  nobody-sends : (ws : List (Waiter T W)) → AllSend ws → sender_first ws ≡ false → ws ≡ []
  nobody-sends [] a h = refl
  nobody-sends (w ∷ ws) a h = absurd (false≢true (sym (rw a.1 at h)))

  -- the waiters that a drain leaves
  abbrev pub stayed : List (Waiter T W) → List (Waiter T W)
  stayed ws = cond (sender_first ws) [] ws

  pub rises-drained : (ws : List (Waiter T W)) (n : ℕ) → Rises 0 ws n → Rises 0 (stayed ws) n
  rises-drained ws n r = elim (cases_Bool (sender_first ws)) [ inl e ↦ rw e (omega arith) | inr e ↦ rw e r ]

module _ {T W : Type 0} (c : Option ℕ) (s r n : ℕ) (ms : List T) (ws : List (Waiter T W)) (side : IsOneSided ms c ws) (within : IsWithin (length ms) c) where
  pub drains : MovesTo (drain (line_of (row c s r n ms ws))) (map settlement (cond (sender_first ws) (map taken_by ws) [])) (line_of (after_drain (row c s r n ms ws)))
  drains =
      elim (cases_Bool (sender_first ws)) [
        | inl e ↦ let send = sender-side ms c ws side within e in rw (e, tickets-behind ms (entries ws), takes-send ws send.0, send-demands ws send.0) refl
        | inr e ↦ rw (e, tickets-behind ms (entries ws), no-entry ms c ws side within e) refl
      ]

module _ {T W : Type 0} (c : Option ℕ) (ms : List T) (ws : List (Waiter T W)) (side : IsOneSided ms c ws) (within : IsWithin (length ms) c) where
  -- the line's length is the buffer's, and how many senders wait
  pub line-long : length (map bare ms ++ entries ws) ≡ length ms + cond (sender_first ws) (length ws) 0
  line-long =
      let both : length (map bare ms ++ entries ws) ≡ length ms + length (entries ws) = simp length-map at (length-append (map bare ms) (entries ws)) in
      elim (cases_Bool (sender_first ws)) [
        | inl e ↦ rw (e, both, long-send ws (sender-side ms c ws side within e).0) refl
        | inr e ↦ rw (e, both, no-entry ms c ws side within e) refl
      ]

  pub line-messages : messages (map bare ms ++ entries ws) ≡ ms ++ cond (sender_first ws) (brought ws) []
  line-messages =
      elim (cases_Bool (sender_first ws)) [
        | inl e ↦ rw (e, map-append, messages-bare, brought-entries) refl
        | inr e ↦ rw (e, no-entry ms c ws side within e) (ap messages (append-nil (map bare ms)) ∙ messages-bare ms ∙ sym (append-nil ms))
      ]

  pub side-drained : IsOneSided [] c (stayed ws)
  side-drained =
      elim (cases_Bool (sender_first ws)) [
        | inl e ↦ rw e (inl refl)
        | inr e ↦
            rw e (
            elim side [
              | inl none ↦ inl none
              | inr some ↦ elim some [ inl send ↦ inl (nobody-sends ws send.0 e) | inr receive ↦ inr (inr (receive.0, refl)) ]
            ]
            )
      ]
