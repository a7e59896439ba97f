-- What a step of the core told, before it is put into lists.
use Rattle.std.specs.Prelude.{◌≡◌, List, ◌++◌}
use Rattle.kanal_core.specs.Line.{Line}
use Rattle.kanal_events.specs.declared.event.Event.{Event}
use Rattle.kanal_events.specs.declared.step_result.StepResult.{StepResult}
use Rattle.kanal_events.specs.Steps.{Tells}
use Rattle.kanal_events.specs.StepResult.{drained_of, told_of}
use Rattle.kanal_journal.specs.declared.journal.handles.Handles.{Handles}
use Rattle.kanal_journal.specs.Runs.{TellsWith}

module _ {T : Type 0} where
  -- the event was made, and what it drained was put behind what was drained before
  pub record StepPost (old : Line T) (event : Event T) (new : Line T) (before after : List T) (made : StepResult T (Unit {0})) : Type 0 where
    pub drained : after ≡ before ++ drained_of made
    pub told : Tells old event (told_of new made)

  -- the event was made, or its side has no live handle; what it drained was put behind what was drained before
  pub record ServedPost (handles : Handles) (old : Line T) (event : Event T) (new : Line T) (before after : List T) (made : StepResult T (Unit {0})) : Type 0 where
    pub drained : after ≡ before ++ drained_of made
    pub told : TellsWith handles old event (told_of new made)
