-- How far the passes' lists were compared with a journal.
use Rattle.std.specs.Prelude.{◌≡◌, ℕ, ◌<◌, ◌≤◌, List, length, map, take, slice_index_or}
use Rattle.std.specs.List.{AllWithin}
use Rattle.kanal_journal.specs.declared.journal.recorded_state.Entry.{Entry}
use Rattle.kanal_recorded.specs.declared.finish.Reached.{Reached}
use Rattle.kanal_recorded.specs.Passes.{Calls}
use Rattle.kanal_recorded.specs.Merges.{Placed, placed, calls_of}

module _ {T : Type 0} where
  -- of these calls there are no fewer than notes so far, and where there are as many they are the notes'
  abbrev pub NotesFit : List (Placed T) → ℕ → List (Placed T) → Type 0
  NotesFit notes count calls = (count ≤ length calls) × (count ≡ length calls → notes ≡ calls)

  -- the pass's first notes are no more than the party's calls among the first entries, are those calls if they are as many, and none is before what was seen
  pub record HasReached (entries : List (Entry T)) (pass : Calls T) (reached : Reached) : Type 0 where
    pub within : reached.notes ≤ length pass.notes
    pub before : reached.entries ≤ length entries
    pub fits : NotesFit (map placed (take reached.notes pass.notes)) reached.notes (calls_of pass.party 0 (take reached.entries entries))
    pub seen : AllWithin (λ n. n.seen ≤ n.place) pass.notes 0 reached.notes

  -- each of the passes has come as far as is kept at its number
  abbrev pub HaveReached : List (Entry T) → List (Calls T) → List Reached → Type 0
  HaveReached entries passes reached = (k : ℕ) (p : Calls T) (r : Reached) → k < length passes → HasReached entries (slice_index_or passes k p) (slice_index_or reached k r)

  -- each of the first passes, so many, has come to the end of its list
  abbrev pub AreAtEnd : List (Calls T) → List Reached → ℕ → Type 0
  AreAtEnd passes reached count = (k : ℕ) (p : Calls T) (r : Reached) → k < count → (slice_index_or reached k r).notes ≡ length (slice_index_or passes k p).notes
