-- The line of a channel in which one side waits at most.
use Rattle.kanal_core.proofs.Common.{◌≡◌, ℕ, true, false, not, List, [], ◌∷◌, ◌++◌, length, map, filter, take, drop, Option, Some, None, refl, sym, ap, ◌∙◌, subst, inl, inr, arith, append-nil, filter_map, filter_map-append, take_at, false≢true, ltb-true, length-map, Reason, Outcome, Ended, Waiter, LineEntry, Line, bare, messages, under, is_below, holds_ticket, IsWithin, serve, ended_entry, none_settled, ended_by, settlement, receiver_first, sender_first, AllSend, AllReceive, IsOneSided}
use Rattle.kanal_core.proofs.Bare.{messages-bare, under-bare}
use Rattle.kanal_core.proofs.Within.{under-within}
use Rattle.kanal_core.proofs.Sides.{entries, demands, receive-entries, send-demands, ends-send, ends-receive}

module _ {T : Type 0} where
  take-bare-full : (ms : List T) (es : List (LineEntry T)) → take (length ms) (map bare ms ++ es) ≡ map bare ms
  take-bare-full ms es = take_at (map bare ms) es (length ms) (simp length-map refl)

  drop-bare-full : (ms : List T) (es : List (LineEntry T)) → drop (length ms) (map bare ms ++ es) ≡ es
  drop-bare-full [] es = refl
  drop-bare-full (m ∷ ms) es = drop-bare-full ms es

  bare-holds : (n : ℕ) (ms : List T) → filter (holds_ticket n) (map bare ms) ≡ []
  bare-holds n [] = refl
  bare-holds n (m ∷ ms) = bare-holds n ms

  bare-stays : (n : ℕ) (ms : List T) → filter (λ e. not (holds_ticket n e)) (map bare ms) ≡ map bare ms
  bare-stays n [] = refl
  bare-stays n (m ∷ ms) = ap (λ xs. bare m ∷ xs) (bare-stays n ms)

  bare-ends : (reason : Reason) (ms : List T) → filter_map (ended_entry reason) (map bare ms) ≡ []
  bare-ends reason [] = refl
  bare-ends reason (m ∷ ms) = bare-ends reason ms

  -- with nothing to serve, the demands wait on
  pub serve-nothing : (old : Line T) (ds : List ℕ) → serve old [] ds ≡ none_settled (record old { line = []; demands = ds })
  serve-nothing old [] = refl
  serve-nothing old (d ∷ ds) = refl

module _ {T W : Type 0} (ms : List T) (c : Option ℕ) (ws : List (Waiter T W)) (side : IsOneSided ms c ws) (within : IsWithin (length ms) c) where
  -- the buffer is the line's first places
  pub under-line : under c (map bare ms ++ entries ws) ≡ map bare ms
  under-line =
      elim side [
        | inl none ↦ rw (none, append-nil, under-bare c ms) (ap (map bare) (under-within c ms within))
        | inr some ↦
            elim some [
              | inl send ↦ rw send.1 (take-bare-full ms (entries ws))
              | inr receive ↦ rw (receive-entries ws receive.0, append-nil, under-bare c ms) (ap (map bare) (under-within c ms within))
            ]
      ]

  pub cleared-line : messages (under c (map bare ms ++ entries ws)) ≡ ms
  cleared-line = ap messages under-line ∙ messages-bare ms

  pub len-line : length (under c (map bare ms ++ entries ws)) ≡ length ms
  len-line = ap length under-line ∙ simp length-map refl

  -- all that waits ends, oldest first
  pub ends-line : (reason : Reason) → filter_map (ended_entry reason) (map bare ms ++ entries ws) ++ map (λ t. (t, Ended reason None)) (demands ws) ≡ map settlement (map (ended_by reason) ws)
  ends-line reason =
      let front : filter_map (ended_entry reason) (map bare ms ++ entries ws) ≡ filter_map (ended_entry reason) (entries ws) = filter_map-append (ended_entry reason) (map bare ms) (entries ws) ∙ ap (λ xs. xs ++ filter_map (ended_entry reason) (entries ws)) (bare-ends reason ms) in
      elim side [
        | inl none ↦ ap (λ xs. xs ++ map {B = ℕ × Outcome T} (λ t. (t, Ended reason None)) (demands ws)) front ∙ rw none refl
        | inr some ↦
            elim some [
              | inl send ↦ ap (λ xs. xs ++ map {B = ℕ × Outcome T} (λ t. (t, Ended reason None)) (demands ws)) front ∙ rw (send-demands ws send.0, append-nil) (ends-send reason ws send.0)
              | inr receive ↦ ap (λ xs. xs ++ map {B = ℕ × Outcome T} (λ t. (t, Ended reason None)) (demands ws)) front ∙ rw (receive-entries ws receive.0) (ends-receive reason ws receive.0)
            ]
      ]

  -- where no receiver is first there is no demand
  pub no-demand : receiver_first ws ≡ false → demands ws ≡ []
  no-demand first =
      elim side [
        | inl none ↦ rw none refl
        | inr some ↦ elim some [ inl send ↦ send-demands ws send.0 | inr receive ↦ no-receiver ws receive.0 first ]
      ]
    where
      no-receiver : (xs : List (Waiter T W)) → AllReceive xs → receiver_first xs ≡ false → demands xs ≡ []
      no-receiver [] a h = refl
      no-receiver (x ∷ xs) a h = absurd (false≢true (sym (rw a.0 at h)))

  -- where the buffer has a place and no receiver is first, nobody waits
  pub nobody : receiver_first ws ≡ false → is_below (length ms) c ≡ true → ws ≡ []
  nobody first below =
      elim side [
        | inl none ↦ none
        | inr some ↦
            elim some [
              | inl send ↦ absurd (no-place send.1)
              | inr receive ↦ no-receiver ws receive.0 first
            ]
      ]
    where
      no-place : c ≡ Some (length ms) → ⊥
      no-place e = let b : is_below (length ms) (Some (length ms)) ≡ true = subst (λ d. is_below (length ms) d ≡ true) e below in omega (arith, ltb-true (length ms) (length ms) b)

      no-receiver : (xs : List (Waiter T W)) → AllReceive xs → receiver_first xs ≡ false → xs ≡ []
      no-receiver [] a h = refl
      no-receiver (x ∷ xs) a h = absurd (false≢true (sym (rw a.0 at h)))

  -- where no sender is first and the buffer is not empty, nobody waits
  pub nobody-behind : sender_first ws ≡ false → (ms ≡ [] → ⊥) → ws ≡ []
  nobody-behind first some_there =
      elim side [
        | inl none ↦ none
        | inr some ↦ elim some [ inl send ↦ no-sender ws send.0 first | inr receive ↦ absurd (some_there receive.1) ]
      ]
    where
      no-sender : (xs : List (Waiter T W)) → AllSend xs → sender_first xs ≡ false → xs ≡ []
      no-sender [] a h = refl
      no-sender (x ∷ xs) a h = absurd (false≢true (sym (rw a.1 at h)))

  -- where no sender is first there is no entry
  pub no-entry : sender_first ws ≡ false → entries ws ≡ []
  no-entry first =
      elim side [
        | inl none ↦ rw none refl
        | inr some ↦ elim some [ inl send ↦ no-sender ws send.0 first | inr receive ↦ receive-entries ws receive.0 ]
      ]
    where
      no-sender : (xs : List (Waiter T W)) → AllSend xs → sender_first xs ≡ false → entries xs ≡ []
      no-sender [] a h = refl
      no-sender (x ∷ xs) a h = absurd (false≢true (sym (rw a.1 at h)))

  -- a first receiver waits only at an empty buffer, and only receivers wait behind it
  pub receiver-side : receiver_first ws ≡ true → AllReceive ws × (ms ≡ [])
  receiver-side first =
      elim side [
        | inl none ↦ absurd (false≢true (rw none at first))
        | inr some ↦ elim some [ inl send ↦ absurd (no-send ws send.0 first) | inr receive ↦ receive ]
      ]
    where
      no-send : (xs : List (Waiter T W)) → AllSend xs → receiver_first xs ≡ true → ⊥
      no-send [] a h = false≢true h
      no-send (x ∷ xs) a h = false≢true (rw a.1 at h)

  -- a first sender waits only at a full buffer, and only senders wait behind it
  pub sender-side : sender_first ws ≡ true → AllSend ws × (c ≡ Some (length ms))
  sender-side first =
      elim side [
        | inl none ↦ absurd (false≢true (rw none at first))
        | inr some ↦ elim some [ inl send ↦ send | inr receive ↦ absurd (no-receive ws receive.0 first) ]
      ]
    where
      no-receive : (xs : List (Waiter T W)) → AllReceive xs → sender_first xs ≡ true → ⊥
      no-receive [] a h = false≢true h
      no-receive (x ∷ xs) a h = false≢true (rw a.0 at h)
