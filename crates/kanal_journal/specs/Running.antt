-- What the fields of a running channel tell, and what holds of them.
use Rattle.std.specs.Prelude.{◌≡◌, ℕ, ◌+◌, ◌≤◌, List, [], ◌++◌, length, Option, vec_capacity}
use Rattle.kanal_core.specs.Channel.{line_of, opening as opening_core}
use Rattle.kanal_events.specs.declared.event.Event.{Event}
use Rattle.kanal_events.specs.declared.event.Reply.{Reply}
use Rattle.kanal_journal.specs.declared.journal.running.Running.{Running}
use Rattle.kanal_events.specs.Steps.{StepSpec}
use Rattle.kanal_journal.specs.Runs.{Account, TellsWith, handles_after, numbered as with_number}
use Rattle.kanal_journal.specs.Given.{AreGiven, waiting_count}

module _ {T : Type 0} where
  -- all that was told, where these were the replies
  abbrev pub account_of : List (Reply T) → Running T → Account T
  account_of replies r =
      record {
        line = line_of r.core;
        handles = r.handles;
        replies = replies;
        settled = r.settled.items;
        drained = r.drained.items;
        cleared = r.cleared.items;
      }

  -- a new channel of this capacity, on which no event was made
  pub record IsOpened (capacity : Option ℕ) (r : Running T) : Type 0 where
    pub core : r.core ≡ opening_core capacity
    pub tickets : r.tickets.items ≡ []
    pub handles : r.handles ≡ record { tx = 1; rx = 1 }
    pub settled : r.settled.items ≡ []
    pub drained : r.drained.items ≡ []
    pub cleared : r.cleared.items ≡ []

  -- the event was made as the step with this number, and what it told was added at the ends
  pub record RunningStep (number : ℕ) (old : Running T) (event : Event T) (reply : Reply T) (new : Running T) : Type 0 where
    pub told : StepSpec T
    pub answers : TellsWith old.handles (line_of old.core) event told
    pub replied : reply ≡ told.reply
    pub line : line_of new.core ≡ told.line
    pub handles : new.handles ≡ handles_after old.handles event told.reply
    pub settled : new.settled.items ≡ old.settled.items ++ with_number number told.settled
    pub drained : new.drained.items ≡ old.drained.items ++ told.drained
    pub cleared : new.cleared.items ≡ old.cleared.items ++ told.cleared

  -- no more is there than so many events can have brought
  pub record IsWithinEvents (events : ℕ) (r : Running T) : Type 0 where
    pub tickets : AreGiven r.tickets.items r.core
    pub given : r.core.next ≤ events
    pub waiting : length r.settled.items + waiting_count (line_of r.core) ≤ events
    pub drains : length r.drained.items + length (line_of r.core).line ≤ events
    pub clears : length r.cleared.items + length (line_of r.core).line ≤ events
    pub senders : r.handles.tx ≤ events + 1
    pub receivers : r.handles.rx ≤ events + 1

  -- each list has room for so many items in all
  pub record HasRoom (total : ℕ) (r : Running T) : Type 0 where
    pub tickets : total ≤ vec_capacity r.tickets
    pub settled : total ≤ vec_capacity r.settled
    pub drained : total ≤ vec_capacity r.drained
    pub cleared : total ≤ vec_capacity r.cleared

  -- each list has the room that it had
  pub record HasSameRoom (old new : Running T) : Type 0 where
    pub tickets : vec_capacity new.tickets ≡ vec_capacity old.tickets
    pub settled : vec_capacity new.settled ≡ vec_capacity old.settled
    pub drained : vec_capacity new.drained ≡ vec_capacity old.drained
    pub cleared : vec_capacity new.cleared ≡ vec_capacity old.cleared

  -- nothing but the room of the lists is another
  pub record IsSame (old new : Running T) : Type 0 where
    pub core : new.core ≡ old.core
    pub tickets : new.tickets.items ≡ old.tickets.items
    pub handles : new.handles ≡ old.handles
    pub settled : new.settled.items ≡ old.settled.items
    pub drained : new.drained.items ≡ old.drained.items
    pub cleared : new.cleared.items ≡ old.cleared.items
