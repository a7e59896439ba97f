-- A seal, and the end of what can be received, as the line sees them.
use Rattle.kanal_core.proofs.Common.{◌≡◌, ℕ, ◌==◌, ◌&&◌, suc, true, false, not, List, [], ◌∷◌, ◌++◌, length, map, Option, refl, sym, ap, ◌∙◌, inl, inr, arith, ne_eqb, SendClosed, Waiter, IsWithin, bare, seal, ended_by, line_of, settlement, MovesTo, IsOneSided, receiver_first, sender_first}
use Rattle.kanal_core.proofs.Sided.{no-demand, receiver-side}
use Rattle.kanal_core.proofs.Sides.{ends-receive, entries, receive-entries}
use Rattle.kanal_core.proofs.Stepping.{row}

module _ {T W : Type 0} (c : Option ℕ) (s r n : ℕ) (ms : List T) (ws : List (Waiter T W)) (side : IsOneSided ms c ws) (within : IsWithin (length ms) c) where
  -- the receivers that wait end, and the line stays
  pub seals-receivers : receiver_first ws ≡ true → MovesTo (seal (line_of (row c s r n ms ws))) (map settlement (map (ended_by SendClosed) ws)) (line_of (row {W = W} c 0 r n ms []))
  seals-receivers first =
      let one = receiver-side ms c ws side within first in
      rw (one.1, receive-entries ws one.0, ends-receive SendClosed ws one.0) refl

  -- where no receiver waits, the senders that do stay
  pub seals-others : receiver_first ws ≡ false → MovesTo (seal (line_of (row c s r n ms ws))) [] (line_of (row c 0 r n ms ws))
  seals-others first = rw (no-demand ms c ws side within first) refl

some-there : (n : ℕ) → (suc n == 0) ≡ false
some-there n = ne_eqb (suc n) 0 (λ e. absurd (omega (arith, e)))

module _ {T W : Type 0} (c : Option ℕ) where
  -- nothing is in the line where the buffer is empty and no sender waits
  pub nothing-left : (ms : List T) (ws : List (Waiter T W)) → IsOneSided ms c ws → (length (map bare ms ++ entries ws) == 0) ≡ ((length ms == 0) && not (sender_first ws))
  nothing-left (m ∷ ms) ws side = some-there (length (map bare ms ++ entries ws)) ∙ sym (ap (λ b. b && not (sender_first ws)) (some-there (length ms)))
  nothing-left [] [] side = refl
  nothing-left [] (w ∷ ws) side =
      elim side [
        | inl none ↦ absurd (cc)
        | inr some ↦
            elim some [
              | inl send ↦ rw send.0.1 (some-there (length (entries ws)))
              | inr receive ↦ rw (receive.0.0, receive-entries ws receive.0.1) refl
            ]
      ]
