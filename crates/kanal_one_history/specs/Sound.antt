-- What passes tell of one history hangs together.
use Rattle.std.proofs.Common.{ℕ, List, [], ◌∷◌, ◌++◌, length, Option, refl, ap, sym, ◌∙◌, append_assoc}
use Rattle.std.proofs.lemmas.List.{append-nil}
use mathlib.Core.List.{IsPrefix}
use Rattle.kanal_log.specs.Views.{Known}
use Rattle.kanal_log.proofs.Readers.{prefix_trans}
use Rattle.kanal_core.specs.declared.internal.outcome.Outcome.{Outcome}
use Rattle.kanal_state.specs.declared.call.Call.{Call}
use Rattle.kanal_state.specs.Calls.{IsIn}
use Rattle.kanal_one_history.specs.Calls.{HasSettled}
use Rattle.kanal_one_history.specs.History.{AppendsInternal, Appends, Extends, internal_pass_relations, pass_relations}
use Rattle.kanal_state.specs.HistoryRelations.{AreSound}

module _ {T : Type 0} where
  -- a longer history settled it, too
  pub settled_longer : (xs ys : List (Call T)) (pair : ℕ × Outcome T) → IsPrefix xs ys → HasSettled xs pair → HasSettled ys pair
  settled_longer xs ys pair p h =
      record {
        before = h.before;
        call = h.call;
        rest = h.rest ++ p.0;
        stands = sym p.1 ∙ (ap (λ (w : List (Call T)). w ++ p.0) h.stands ∙ append_assoc h.before (h.call ∷ h.rest) p.0);
        settled = h.settled;
      }

  extends-trans : (a b c : Known (Call T)) → Extends a b → Extends b c → Extends a c
  extends-trans a b c one two = record { seen = prefix_trans a.log b.log c.log one.seen two.seen; own = two.own ∙ one.own; share = two.share ∙ one.share }

  extends-appends : (capacity : Option ℕ) (a b c : Known (Call T)) (call : Call T) → Extends a b → Appends capacity b c call → Appends capacity a c call
  extends-appends capacity a b c call extends m =
      record {
        before = m.before;
        seen = prefix_trans a.log b.log m.before extends.seen m.seen;
        last = m.last;
        own = m.own ∙ ap (λ xs. length m.before ∷ xs) extends.own;
        share = m.share ∙ extends.share;
        told = m.told;
      }

  appends-saw : (capacity : Option ℕ) (a b : Known (Call T)) (call : Call T) → Appends capacity a b call → (pair : ℕ × Outcome T) → IsIn pair call.settled → HasSettled b.log pair
  appends-saw capacity a b call m pair among = record { before = m.before; call = call; rest = []; stands = m.last; settled = among }

  pub pass_sound : (capacity : Option ℕ) → AreSound {T = T} (pass_relations capacity)
  pass_sound capacity =
      record {
        extends_refl = λ a. record { seen = ([], append-nil a.log); own = refl; share = refl };
        extends_trans = extends-trans;
        extends_appends = extends-appends capacity;
        appends_saw = appends-saw capacity;
        extends_saw = λ a b pair extends h. settled_longer a.log b.log pair extends.seen h;
      }

  extends-appends-internal : (capacity : Option ℕ) (a b c : List (Call T)) (call : Call T) → IsPrefix a b → AppendsInternal capacity b c call → AppendsInternal capacity a c call
  extends-appends-internal capacity a b c call extends m = record { before = m.before; seen = prefix_trans a b m.before extends m.seen; last = m.last; told = m.told }

  pub internal_pass_sound : (capacity : Option ℕ) → AreSound {T = T} (internal_pass_relations capacity)
  internal_pass_sound capacity =
      record {
        extends_refl = λ a. ([], append-nil a);
        extends_trans = prefix_trans;
        extends_appends = extends-appends-internal capacity;
        appends_saw = λ a b call m pair among. record { before = m.before; call = call; rest = []; stands = m.last; settled = among };
        extends_saw = λ a b pair extends h. settled_longer a b pair extends h;
      }
