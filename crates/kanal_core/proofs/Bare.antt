-- Entries that wait for nothing.
use Rattle.kanal_core.proofs.Common.{◌≡◌, ℕ, zero, suc, List, [], ◌∷◌, ◌++◌, map, take, Option, Some, None, refl, ap, append-nil, take-append-drop, LineEntry, Line, bare, messages, tickets, under, seated, taken, leave}

module _ {T : Type 0} where
  -- their messages are what they were made of
  pub messages-bare : (ms : List T) → messages (map bare ms) ≡ ms
  messages-bare [] = refl
  messages-bare (m ∷ ms) = ap (λ xs. m ∷ xs) (messages-bare ms)

  -- none has a ticket
  pub tickets-bare : (ms : List T) → tickets (map bare ms) ≡ []
  tickets-bare [] = refl
  tickets-bare (m ∷ ms) = tickets-bare ms

  pub take-bare : (n : ℕ) (ms : List T) → take n (map bare ms) ≡ map bare (take n ms)
  take-bare zero ms = refl
  take-bare (suc n) [] = refl
  take-bare (suc n) (m ∷ ms) = ap (λ xs. bare m ∷ xs) (take-bare n ms)

  pub under-bare : (c : Option ℕ) (ms : List T) → under c (map bare ms) ≡ map bare (under c ms)
  under-bare None ms = refl
  under-bare (Some c) ms = take-bare c ms

  again : (ms : List T) → map (λ (e : LineEntry T). bare e.message) (map bare ms) ≡ map bare ms
  again [] = refl
  again (m ∷ ms) = ap (λ xs. bare m ∷ xs) (again ms)

  -- to seat them changes nothing
  pub seated-bare : (c : Option ℕ) (ms : List T) → seated c (map bare ms) ≡ map bare ms
  seated-bare None ms = rw append-nil (again ms)
  seated-bare (Some c) ms = rw (take-bare c ms, again (take c ms), ← take-bare c ms) (take-append-drop c (map bare ms))

  -- none of them is settled as it leaves
  pub taken-bare : (m : T) (c : Option ℕ) (ms : List T) → taken (bare m ∷ [] ++ under c (map bare ms)) ≡ []
  taken-bare m c ms = rw (under-bare c ms, tickets-bare (under c ms)) refl

  -- the front of such a line leaves
  pub leave-bare : (old : Line T) (m : T) (ms : List T) → leave old (bare m ∷ []) (map bare ms) ≡ record { line = record old { line = map bare ms }; settled = [] }
  leave-bare old m ms = rw (seated-bare old.capacity ms, taken-bare m old.capacity ms) refl
