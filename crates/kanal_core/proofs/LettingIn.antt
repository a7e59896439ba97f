-- A take from the buffer, with the waiting sender that it lets in.
use Rattle.kanal_core.proofs.Common.{◌≡◌, ℕ, true, List, [], ◌∷◌, ◌++◌, length, Option, Some, None, refl, ap, ◌∙◌, subst, inl, arith, length-append, Waiter, IsWithin, line_of, settlements, sender_first, TakesFront, OldestLeft, AllSend, Rises, IsOneSided}
use Rattle.kanal_core.specs.declared.internal.outcome.Settled.{Settled}
use Rattle.kanal_core.specs.BufferViews.{BufferView}
use Rattle.kanal_core.specs.Handing.{LetsIn}
use Rattle.kanal_core.proofs.Sided.{sender-side, nobody-behind}
use Rattle.kanal_core.proofs.Stepping.{row, takes-alone, takes-let-in}
use Rattle.kanal_core.proofs.Sounding.{side-let-in, rises-tail}

-- what a take from the buffer leaves and tells
pub record TakenSoundly {T W : Type 0} (c : Option ℕ) (s r n : ℕ) (m : T) (ws : List (Waiter T W)) (b : BufferView T) (o : Option (Settled T W)) (after : BufferView T) (new : List (Waiter T W)) : Type 0 where
  pub step : TakesFront (line_of (row c s r n (m ∷ b.messages) ws)) m (settlements o) (line_of (row c s r n after.messages new))
  pub oldest : OldestLeft ws o new
  pub side : IsOneSided after.messages c new
  pub rises : Rises 0 new n
  pub within : IsWithin (length after.messages) c
  pub limit : after.limit ≡ b.limit

shorter : {T : Type 0} (m : T) (ms : List T) (c : Option ℕ) → IsWithin (length (m ∷ ms)) c → IsWithin (length ms) c
shorter m ms None h = tt
shorter m ms (Some c) h = omega (arith, h)

as-long : {T : Type 0} (m sent : T) (ms : List T) (c : Option ℕ) → IsWithin (length (m ∷ ms)) c → IsWithin (length (ms ++ sent ∷ [])) c
as-long m sent ms None h = tt
as-long m sent ms (Some c) h = omega (arith, h, length-append ms (sent ∷ []))

not-empty : {T : Type 0} (m : T) (ms : List T) → m ∷ ms ≡ [] → ⊥
not-empty m ms e = absurd (cc)

module _ {T W : Type 0} (c : Option ℕ) (s r n : ℕ) (m : T) (ws : List (Waiter T W)) (b : BufferView T) (side : IsOneSided (m ∷ b.messages) c ws) (within : IsWithin (length (m ∷ b.messages)) c) (rises : Rises 0 ws n) (some_receiver : r ≡ 0 → ⊥) where
  first-sends : (first : Waiter T W) (new : List (Waiter T W)) (sent : T) → ws ≡ first ∷ new → first.message ≡ Some sent → sender_first ws ≡ true
  first-sends first new sent was e = rw (was, e) refl

  pub taken-soundly : (o : Option (Settled T W)) (after : BufferView T) (new : List (Waiter T W)) → LetsIn b ws o after new → TakenSoundly c s r n m ws b o after new
  taken-soundly None after new h =
      let none = nobody-behind (m ∷ b.messages) c ws side within h.0 (not-empty m b.messages) in
      record {
        step = rw (h.1, h.2, none) (takes-alone W c s r n m b.messages some_receiver);
        oldest = h.2;
        side = inl (h.2 ∙ none);
        rises = rw h.2 rises;
        within = rw h.1 (shorter m b.messages c within);
        limit = ap (λ x. x.limit) h.1;
      }
  taken-soundly (Some settled) after new h =
      let sent = h.0 in
      let takes = h.1 in
      let one = sender-side (m ∷ b.messages) c ws side within (first-sends takes.first new sent takes.was takes.message) in
      let send = subst AllSend takes.was one.0 in
      let R : List (Waiter T W) → Type 0 = λ xs. Rises 0 xs n in
      record {
        step = rw (h.2, takes.was, one.1, takes.settled) (takes-let-in s r n takes.first new m sent takes.message send.2 b.messages some_receiver);
        oldest = (takes.first, takes.was, ap (λ x. x.ticket) takes.settled, ap (λ x. x.w) takes.settled);
        side = rw h.2 (side-let-in m sent b.messages c takes.first new send.2 one.1);
        rises = rises-tail takes.first new n (subst R takes.was rises);
        within = rw h.2 (as-long m sent b.messages c within);
        limit = ap (λ x. x.limit) h.2;
      }
