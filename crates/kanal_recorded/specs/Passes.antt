-- What a pass keeps of its calls.
use Rattle.std.specs.Prelude.{◌≡◌, ◌⊎◌, ℕ, ◌+◌, false, List, [], ◌∷◌, ◌++◌, length, max}
use Rattle.kanal_events.specs.declared.event.Event.{Event}
use Rattle.kanal_events.specs.declared.event.Reply.{Reply}
use Rattle.kanal_recorded.specs.declared.pass.Note.{Note}
use Rattle.kanal_recorded.specs.declared.pass.Seen.{Seen}
use Rattle.kanal_journal.specs.Replays.{Recording}
use Rattle.kanal_events.specs.Steps.{no_memory, is_no_memory}

-- a party, its calls in order, and how much of the journal it has seen
pub record Calls (T : Type 0) : Type 0 where
  pub party : ℕ
  pub notes : List (Note T)
  pub seen : ℕ

-- how many entries of the journal were seen
abbrev pub seen_length : Seen → ℕ
seen_length seen = seen.length

module _ {T : Type 0} where
  -- a party that has made no call
  abbrev pub newcomer : ℕ → Calls T
  newcomer party = record { party = party; notes = []; seen = 0 }

  -- the party's calls and one more, whose entry is at this place: what was seen before is kept with it, and then it is seen too
  abbrev pub noted : Calls T → Event T → Reply T → ℕ → Calls T
  noted old event reply place =
      record old {
        notes = old.notes ++ record { event = event; reply = reply; place = place; seen = old.seen } ∷ [];
        seen = max old.seen (place + 1);
      }

  -- the party has heard how much of the journal another has seen
  abbrev pub heard : Calls T → ℕ → Calls T
  heard old seen = record old { seen = max old.seen seen }

  -- the call found no memory and the pass is as it was; or it was noted, at some place of the journal
  abbrev pub Notes : Calls T → Event T → Reply T → Calls T → Type 0
  Notes old event reply new =
      ((reply ≡ no_memory event) × (new ≡ old))
      ⊎ ((is_no_memory reply ≡ false) × ((place : ℕ) × (new ≡ noted old event reply place)))

  -- the call found no memory and the pass is as it was; or it was noted, at the end of this journal
  abbrev pub NotesAt : Recording T → Calls T → Event T → Reply T → Calls T → Type 0
  NotesAt journal old event reply new =
      ((reply ≡ no_memory event) × (new ≡ old))
      ⊎ ((is_no_memory reply ≡ false) × (new ≡ noted old event reply (length journal.entries)))
