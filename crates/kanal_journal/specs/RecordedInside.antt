-- The recorded state's fields, read as what contracts see.
use Rattle.std.specs.Prelude.{◌≡◌, List, length}
use Rattle.kanal_journal.specs.declared.journal.recorded_state.Entry.{Entry}
use Rattle.kanal_journal.specs.declared.journal.recorded_state.RecordedState.TheInside.{Inside}
use Rattle.kanal_journal.specs.declared.journal.running.Running.{Running}
use Rattle.kanal_journal.specs.Running.{IsWithinEvents, account_of}
use Rattle.kanal_journal.specs.Replays.{Recording, Replays, replies_of}

module _ {T : Type 0} where
  -- the journal of these entries
  abbrev pub journal_of : List (Entry T) → Running T → Recording T
  journal_of entries r = record { capacity = r.core.capacity; entries = entries; account = account_of (replies_of entries) r }

  -- the state as contracts see it
  abbrev pub seen_of : Inside T → Recording T
  seen_of s = journal_of s.entries.items s.running

  -- the journal replays to what is there, which its entries can have brought
  pub record JournalIsSound (entries : List (Entry T)) (r : Running T) : Type 0 where
    pub replays : Replays r.core.capacity entries (account_of (replies_of entries) r)
    pub within : IsWithinEvents (length entries) r

  -- the journal is sound, and the capacity is the channel's
  pub record IsExplained (s : Inside T) : Type 0 where
    pub sound : JournalIsSound s.entries.items s.running
    pub capacity : s.running.core.capacity ≡ s.capacity
