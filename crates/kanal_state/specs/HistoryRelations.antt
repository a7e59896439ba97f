-- What passes tell of calls.
use Rattle.std.specs.Prelude.{ℕ, List, [], ◌∷◌}
use Rattle.kanal_core.specs.declared.internal.outcome.Outcome.{Outcome}
use Rattle.kanal_core.specs.Line.{Line}
use Rattle.kanal_state.specs.declared.call.Call.{Call}
use Rattle.kanal_state.specs.Calls.{IsIn}

-- what contracts say of passes, each of which is seen as a P
pub record HistoryRelations (T P : Type 0) : Type 1 where
  -- this call took the first pass to the second
  pub appends : P → P → Call T → Type 0
  -- the second pass is the first after it has seen more, and made no call
  pub extends : P → P → Type 0
  -- the calls that the pass has seen led to this line
  pub reaches : P → Line T → Type 0
  -- the pass has seen that a call settled the ticket so
  pub saw_settled : P → ℕ × Outcome T → Type 0

module _ {T P : Type 0} where
  -- the pass has seen that calls settled all these tickets so
  abbrev pub HaveSettled : HistoryRelations T P → P → List (ℕ × Outcome T) → Type 0
  HaveSettled w p [] = Unit {0}
  HaveSettled w p (pair ∷ pairs) = w.saw_settled p pair × HaveSettled w p pairs

  -- what generic code may conclude from them
  pub record AreSound (w : HistoryRelations T P) : Type 0 where
    pub extends_refl : (a : P) → w.extends a a
    pub extends_trans : (a b c : P) → w.extends a b → w.extends b c → w.extends a c
    pub extends_appends : (a b c : P) (call : Call T) → w.extends a b → w.appends b c call → w.appends a c call
    pub appends_saw : (a b : P) (call : Call T) → w.appends a b call → (pair : ℕ × Outcome T) → IsIn pair call.settled → w.saw_settled b pair
    pub extends_saw : (a b : P) (pair : ℕ × Outcome T) → w.extends a b → w.saw_settled a pair → w.saw_settled b pair

module _ {T S : Type 0} where
  -- what was seen has it that calls settled all these tickets so
  abbrev pub HaveShown : (S → ℕ × Outcome T → Type 0) → S → List (ℕ × Outcome T) → Type 0
  HaveShown shows s [] = Unit {0}
  HaveShown shows s (pair ∷ pairs) = shows s pair × HaveShown shows s pairs

module _ {T : Type 0} where
  -- a pass of no content tells nothing
  abbrev pub nothing_told : HistoryRelations T (Unit {0})
  nothing_told =
      record {
        appends = λ a b call. Unit {0};
        extends = λ a b. Unit {0};
        reaches = λ a line. Unit {0};
        saw_settled = λ a pair. Unit {0};
      }

  pub nothing_sound : AreSound {T = T} nothing_told
  nothing_sound =
      record {
        extends_refl = λ a. tt;
        extends_trans = λ a b c one two. tt;
        extends_appends = λ a b c call one two. tt;
        appends_saw = λ a b call one pair among. tt;
        extends_saw = λ a b pair one two. tt;
      }
