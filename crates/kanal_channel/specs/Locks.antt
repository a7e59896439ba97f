-- The lock of a channel, while it is held, and what a core counts as it is put under one.
use Rattle.std.specs.Prelude.{◌≡◌, Bool, None}
use Rattle.kanal_core.specs.Line.{Line}
use Rattle.kanal_channel.specs.declared.shared.locked.Pending.{Pending}

module _ {T : Type 0} where
  -- whether the lock still has to be released
  abbrev pub is_held : Line T × Bool → Bool
  is_held locked = locked.1

  -- the line of the core that the lock lends
  abbrev pub line_under : Line T × Bool → Line T
  line_under locked = locked.0

  -- one sender and one receiver are counted
  abbrev pub HasOneOfEach : Line T → Type 0
  HasOneOfEach line = (line.senders ≡ 1) × (line.receivers ≡ 1)

module _ {T Hist Pass Log Prefix Internal : Type 0} where
  -- the notices took nothing out
  abbrev pub takes_nothing : Pending T Hist Pass Log Prefix Internal → Type 0
  takes_nothing pending = pending.applied ≡ None
