-- Who waits after a step, and which ticket it gave.
use Rattle.kanal_events.proofs.Common.{◌≡◌, ℕ, ◌+◌, zero, suc, List, [], ◌∷◌, ◌++◌, length, Bool, true, false, cond, slice_get, Option, Some, refl, sym, ap, subst, ◌∙◌, arith, inl, inr, cases_Bool, Waiter, ChannelView, after_drain, same_ticket, sender_first, without, WaitsLast}
use Rattle.kanal_core.specs.declared.internal.outcome.Ticket.{Ticket}
use Rattle.kanal_events.specs.declared.step_result.Placement.{Placement}
use Rattle.kanal_events.specs.declared.step_result.Placement.TheVariants.{Ticket as Waiting, Back}
use Rattle.kanal_events.specs.Given.{AreKept, Gives, GivesNone, GivesOne}

-- what stands in a list stands there with one more at its end
stays : (ts : List Ticket) (t x : Ticket) (n : ℕ) → slice_get ts n ≡ Some x → slice_get (ts ++ t ∷ []) n ≡ Some x
stays [] t x n e = absurd (cc)
stays (u ∷ ts) t x zero e = e
stays (u ∷ ts) t x (suc n) e = stays ts t x n e

last : (ts : List Ticket) (t : Ticket) (n : ℕ) → length ts ≡ n → slice_get (ts ++ t ∷ []) n ≡ Some t
last [] t zero e = refl
last [] t (suc n) e = absurd (omega (arith, e))
last (u ∷ ts) t zero e = absurd (omega (arith, e))
last (u ∷ ts) t (suc n) e = last ts t n (omega (arith, e))

module _ {T W : Type 0} where
  kept-without : (ts : List Ticket) (t : Ticket) (ws : List (Waiter T W)) → AreKept ts ws → AreKept ts (without t ws)
  kept-without ts t [] k = tt
  kept-without ts t (w ∷ ws) k =
      elim (cases_Bool (same_ticket w.ticket t)) [
        | inl e ↦ rw e k.1
        | inr e ↦ rw e (k.0, kept-without ts t ws k.1)
      ]

  -- nobody gets a ticket where one is withdrawn, and where all senders leave
  pub none-without : (old new : ChannelView T W) (t : Ticket) → new.next ≡ old.next → new.waiters ≡ without t old.waiters → GivesNone old new
  none-without old new t next left = record { next = next; kept = λ ts k. subst (λ ws. AreKept ts ws) (sym left) (kept-without ts t old.waiters k) }

  kept-drained : (ts : List Ticket) (sends : Bool) (ws : List (Waiter T W)) → AreKept ts ws → AreKept ts (cond sends [] ws)
  kept-drained ts true ws k = tt
  kept-drained ts false ws k = k

  pub none-drained : (old new : ChannelView T W) → new ≡ after_drain old → GivesNone old new
  none-drained old new e = rw e (record { next = refl; kept = λ ts k. kept-drained ts (sender_first old.waiters) old.waiters k })

  -- nor where all leave who wait, or nobody
  pub none-left : (old new : ChannelView T W) (all : Bool) → new.next ≡ old.next → new.waiters ≡ cond all [] old.waiters → GivesNone old new
  none-left old new all next stay = record { next = next; kept = λ ts k. subst (λ ws. AreKept ts ws) (sym stay) (kept-drained ts all old.waiters k) }

  kept-more : (ts : List Ticket) (t : Ticket) (ws : List (Waiter T W)) → AreKept ts ws → AreKept (ts ++ t ∷ []) ws
  kept-more ts t [] k = tt
  kept-more ts t (w ∷ ws) k = (stays ts t w.ticket w.ticket.number k.0, kept-more ts t ws k.1)

  kept-last : (ts : List Ticket) (ws : List (Waiter T W)) (w : Waiter T W) → AreKept ts ws → slice_get ts w.ticket.number ≡ Some w.ticket → AreKept ts (ws ++ w ∷ [])
  kept-last ts [] w k e = (e, tt)
  kept-last ts (x ∷ ws) w k e = (k.0, kept-last ts ws w k.1 e)

  -- one who begins to wait has the next ticket, and stands last
  pub gives-last : (old new : ChannelView T W) (message : Option T) (w : W) (t : Ticket) → WaitsLast old.next message w t old.waiters new.waiters → new.next ≡ old.next + 1 → GivesOne t old new
  gives-last old new message w t waits next =
      record {
        number = waits.0;
        next = next;
        kept = λ ts count k.
            let there = kept-last (ts ++ t ∷ []) old.waiters (record { ticket = t; message = message; w = w }) (kept-more ts t old.waiters k) (last ts t t.number (count ∙ sym waits.0)) in
            subst (λ ws. AreKept (ts ++ t ∷ []) ws) (sym waits.1) there;
      }

  -- a step that gave no ticket, and one behind it
  pub gives-after : (kept : Placement W) (old mid new : ChannelView T W) → GivesNone old mid → Gives kept mid new → Gives kept old new
  gives-after (Waiting t) old mid new none one =
      record {
        number = one.number ∙ none.next;
        next = one.next ∙ ap (λ n. n + 1) none.next;
        kept = λ ts count k. one.kept ts (count ∙ sym none.next) (none.kept ts k);
      }
  gives-after (Back w) old mid new none more = record { next = more.next ∙ none.next; kept = λ ts k. more.kept ts (none.kept ts k) }
