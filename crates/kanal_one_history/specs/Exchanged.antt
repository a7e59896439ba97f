-- What calls put and got, by the history that keeps all calls.
use Rattle.std.proofs.Common.{◌≡◌, ℕ, List, [], ◌∷◌, Option, refl, sym, ap, ◌∙◌, subst}
use Rattle.kanal_log.specs.Views.{Known}
use Rattle.kanal_core.specs.declared.internal.outcome.Outcome.{Outcome}
use Rattle.kanal_core.specs.declared.internal.outcome.Outcome.TheVariants.{Taken, Given}
use Rattle.kanal_events.specs.declared.event.Event.{Event}
use Rattle.kanal_events.specs.declared.event.Event.TheVariants.{Send, TrySend, Recv, RecvLate, TryRecv}
use Rattle.kanal_events.specs.declared.event.Reply.{Reply}
use Rattle.kanal_events.specs.declared.event.Reply.TheVariants.{Sent, Waits, Yes, No, Got, Nothing}
use Rattle.kanal_journal.specs.Paired.{asked, cleared_by, sent}
use Rattle.kanal_state.specs.declared.call.Call.{Call}
use Rattle.kanal_state.specs.Exchanges.{Replies, TellsExchanges}
use Rattle.kanal_state.specs.Makes.{HasWaited, IsReplied}
use Rattle.kanal_one_history.specs.History.{pass_relations, Appends}
use Rattle.kanal_one_history.specs.Puts.{AreGot, ArePut, Exchanges, HasMade}
use Rattle.kanal_one_history.specs.Sound.{pass_sound}

module _ {T : Type 0} where
  module _ (capacity : Option ℕ) (old new : Known (Call T)) where
    -- a call of this event with this reply, of which the pass may have seen more since
    pub exchanges : (event : Event T) (reply : Reply T) (put got : List T) (call : Call T) → HasMade capacity old new call → call.event ≡ event → call.reply ≡ reply
        → ArePut new.log (sent event reply) put → AreGot new.log (asked event reply) got → cleared_by reply ≡ 0 → Exchanges capacity old new put got
    exchanges event reply put got call made e r puts gets clears =
        record {
          call = call;
          made = made;
          puts = subst (λ x. ArePut new.log (sent x call.reply) put) (sym e) (subst (λ x. ArePut new.log (sent event x) put) (sym r) puts);
          gets = subst (λ x. AreGot new.log (asked x call.reply) got) (sym e) (subst (λ x. AreGot new.log (asked event x) got) (sym r) gets);
          clears = ap cleared_by r ∙ clears;
        }

    -- the pass has just made it
    pub just-made : (call : Call T) → Appends capacity old new call → HasMade capacity old new call
    just-made call made = record { mid = new; made = made; extends = (pass_sound {T = T} capacity).extends_refl new }

    -- what a call put and got that was replied at once
    replied-exchanges : {R : Type 0} (event : Event T) (read : Reply T → R) (answer : R) (reply : Reply T) (put got : List T)
        → (c : IsReplied (pass_relations capacity) old new event read answer) → c.call.reply ≡ reply
        → ArePut new.log (sent event reply) put → AreGot new.log (asked event reply) got → cleared_by reply ≡ 0 → Exchanges capacity old new put got
    replied-exchanges event read answer reply put got c r puts gets clears =
        exchanges event reply put got c.call (just-made c.call c.made) c.asked r puts gets clears

    -- a call whose reply is told by itself
    told-exchanges : (event : Event T) (reply : Reply T) (put got : List T) → Replies (pass_relations capacity) old new event reply
        → ArePut new.log (sent event reply) put → AreGot new.log (asked event reply) got → cleared_by reply ≡ 0 → Exchanges capacity old new put got
    told-exchanges event reply put got c puts gets clears = replied-exchanges event (λ r. r) reply reply put got c (sym c.reads) puts gets clears

    -- a call that waited and was settled so
    waited-exchanges : (event : Event T) (outcome : Outcome T) (put got : List T) → (c : HasWaited (pass_relations capacity) old new event outcome)
        → ArePut new.log (sent event (Waits c.ticket)) put → AreGot new.log (asked event (Waits c.ticket)) got → Exchanges capacity old new put got
    waited-exchanges event outcome put got c puts gets =
        exchanges event (Waits c.ticket) put got c.waits.call (record { mid = c.mid; made = c.waits.made; extends = c.learns }) c.waits.asked (sym c.waits.reads) puts gets refl

  -- what calls put and got, by this history
  pub ghost_exchanges : (capacity : Option ℕ) → TellsExchanges {T = T} (pass_relations capacity) (Exchanges capacity)
  ghost_exchanges capacity =
      record {
        put_at_once = λ old new m c. told-exchanges capacity old new (Send m) Sent (m ∷ []) [] c (refl, tt) tt refl;
        put_waiting = λ old new m c. waited-exchanges capacity old new (Send m) Taken (m ∷ []) [] c (refl, c.settled, tt) tt;
        put_by_trying = λ old new m c. told-exchanges capacity old new (TrySend m) Yes (m ∷ []) [] c (refl, tt) tt refl;
        put_nothing = λ old new m back c. told-exchanges capacity old new (TrySend m) (No back) [] [] c tt tt refl;
        got_at_once = λ old new m c. told-exchanges capacity old new Recv (Got m) [] (m ∷ []) c tt (refl, tt) refl;
        got_waiting = λ old new m c. waited-exchanges capacity old new Recv (Given m) [] (m ∷ []) c tt (c.settled, tt);
        got_late = λ old new m c. told-exchanges capacity old new RecvLate (Got m) [] (m ∷ []) c tt (refl, tt) refl;
        got_by_trying = λ old new m c. told-exchanges capacity old new TryRecv (Got m) [] (m ∷ []) c tt (refl, tt) refl;
        got_nothing = λ old new c. told-exchanges capacity old new TryRecv Nothing [] [] c tt tt refl;
      }
