-- What passes tell of one history of calls.
use Rattle.std.specs.Prelude.{◌≡◌, ℕ, List, [], ◌∷◌, ◌++◌, length, Option}
use mathlib.Core.List.{IsPrefix}
use Rattle.kanal_log.specs.Views.{Known}
use Rattle.kanal_events.specs.Steps.{step}
use Rattle.kanal_state.specs.declared.call.Call.{Call}
use Rattle.kanal_state.specs.Calls.{call_of}
use Rattle.kanal_one_history.specs.Calls.{line_after, HasSettled}
use Rattle.kanal_state.specs.HistoryRelations.{HistoryRelations}

module _ {T : Type 0} where
  -- the pass made this call: it is the last of a history that goes on from what the pass had seen, its place is the pass's own, and one line of messages tells so after all the calls before it
  pub record Appends (capacity : Option ℕ) (old new : Known (Call T)) (call : Call T) : Type 0 where
    pub before : List (Call T)
    pub seen : IsPrefix old.log before
    pub last : new.log ≡ before ++ call ∷ []
    pub own : new.own ≡ length before ∷ old.own
    pub share : new.share ≡ old.share
    pub told : call ≡ call_of call.event (step (line_after capacity before) call.event)

  -- the pass has seen more of the history, and made no call
  pub record Extends (old new : Known (Call T)) : Type 0 where
    pub seen : IsPrefix old.log new.log
    pub own : new.own ≡ old.own
    pub share : new.share ≡ old.share

  -- an internal call was made: it is the last of a history that goes on from what was seen before, and one line of messages tells so after all the calls before it
  pub record AppendsInternal (capacity : Option ℕ) (old new : List (Call T)) (call : Call T) : Type 0 where
    pub before : List (Call T)
    pub seen : IsPrefix old before
    pub last : new ≡ before ++ call ∷ []
    pub told : call ≡ call_of call.event (step (line_after capacity before) call.event)

  -- what passes tell of a history on a line of this capacity
  abbrev pub pass_relations : Option ℕ → HistoryRelations T (Known (Call T))
  pass_relations capacity =
      record {
        appends = Appends capacity;
        extends = Extends;
        reaches = λ pass line. line ≡ line_after capacity pass.log;
        saw_settled = λ pass pair. HasSettled pass.log pair;
      }

  -- what is told of internal calls
  abbrev pub internal_pass_relations : Option ℕ → HistoryRelations T (List (Call T))
  internal_pass_relations capacity =
      record {
        appends = AppendsInternal capacity;
        extends = λ old new. IsPrefix old new;
        reaches = λ seen line. line ≡ line_after capacity seen;
        saw_settled = λ seen pair. HasSettled seen pair;
      }
