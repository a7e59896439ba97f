-- One journal that is made of several parties' calls.
use Rattle.std.specs.Prelude.{◌≡◌, ◌≢◌, ℕ, ◌+◌, ◌<◌, ◌≤◌, Bool, true, nat_eq, cond, List, [], ◌∷◌, length, map, Option, slice_index_or}
use Rattle.std.specs.List.{All, AllPairs, Any}
use Rattle.kanal_events.specs.declared.event.Event.{Event}
use Rattle.kanal_events.specs.declared.event.Reply.{Reply}
use Rattle.kanal_journal.specs.declared.journal.recorded_state.Entry.{Entry}
use Rattle.kanal_recorded.specs.declared.pass.Note.{Note}
use Rattle.kanal_journal.specs.declared.journal.recorded_state.Journal.{Journal}
use Rattle.kanal_journal.specs.Runs.{Account, Leads, opening_account}
use Rattle.kanal_journal.specs.Paired.{PairedHistory, history_from}
use Rattle.kanal_journal.specs.Laws.{told_history}
use Rattle.kanal_journal.specs.Replays.{Replays, events_of, replies_of}
use Rattle.kanal_recorded.specs.Passes.{Calls}

-- the test calls only the same value equal
abbrev pub IsIdentity : {T : Type 0} → (T → T → Bool) → Type 0
IsIdentity {T} eq = (x y : T) → eq x y ≡ true → x ≡ y

-- a call with its reply, and the place of its entry
pub record Placed (T : Type 0) : Type 0 where
  pub event : Event T
  pub reply : Reply T
  pub place : ℕ

module _ {T : Type 0} where
  -- the call of a note
  abbrev pub placed : Note T → Placed T
  placed n = record { event = n.event; reply = n.reply; place = n.place }

  -- the party's calls among the entries, in order, where the first entry stands at this place
  abbrev pub calls_of : ℕ → ℕ → List (Entry T) → List (Placed T)
  calls_of party at [] = []
  calls_of party at (e ∷ es) = cond (nat_eq e.party party) (record { event = e.event; reply = e.reply; place = at } ∷ calls_of party (at + 1) es) (calls_of party (at + 1) es)

  -- the pass's list is what the journal has of its party, and no call stands before what was seen
  abbrev pub IsOwn : List (Entry T) → Calls T → Type 0
  IsOwn entries p = (map placed p.notes ≡ calls_of p.party 0 entries) × All (λ n. n.seen ≤ n.place) p.notes

  -- the pass has no more notes than the journal has calls of its party, and its list is what the journal has if there are as many
  abbrev pub NotesAmong : List (Entry T) → Calls T → Type 0
  NotesAmong entries p = (length p.notes ≤ length (calls_of p.party 0 entries)) × (length p.notes ≡ length (calls_of p.party 0 entries) → IsOwn entries p)

  -- the note is of this entry, and its place is not before what was seen
  abbrev pub IsNoteOf : Entry T → Note T → Type 0
  IsNoteOf e n = (n.event ≡ e.event) × (n.reply ≡ e.reply) × (n.seen ≤ n.place)

  -- no pass before this one has its party
  abbrev pub IsApart : List (Calls T) → ℕ → Type 0
  IsApart passes later = (earlier : ℕ) (d : Calls T) → earlier < later → (slice_index_or passes earlier d).party ≢ (slice_index_or passes later d).party

  -- no two passes have one party, each entry's party has a pass, and each pass's list is what the journal has of its party
  pub record IsMerged (entries : List (Entry T)) (passes : List (Calls T)) : Type 0 where
    pub apart : AllPairs (λ p q. p.party ≢ q.party) passes
    pub known : All (λ e. Any (λ p. p.party ≡ e.party) passes) entries
    pub own : All (IsOwn entries) passes

  -- the journal is one of this capacity, replays with its own lists, and the passes' calls are merged in it
  pub record FinishPost (given : Option ℕ) (passes : List (Calls T)) (journal : Journal T) : Type 0 where
    pub capacity : journal.capacity ≡ given
    pub end : Account T
    pub replays : Replays given journal.entries.items end
    pub settled : end.settled ≡ journal.settled.items
    pub drained : end.drained ≡ journal.drained.items
    pub cleared : end.cleared ≡ journal.cleared.items
    pub merged : IsMerged journal.entries.items passes

  -- the history that a journal tells
  abbrev pub journal_history : Journal T → PairedHistory T
  journal_history j = history_from (events_of j.entries.items) (replies_of j.entries.items) j.settled.items j.drained.items

  -- the journal's events lead from a new channel of this capacity to an account that tells the journal's history: the laws hold of it
  pub record IsLedTo (given : Option ℕ) (journal : Journal T) : Type 0 where
    pub end : Account T
    pub leads : Leads (opening_account given) (events_of journal.entries.items) end
    pub history : told_history (events_of journal.entries.items) end ≡ journal_history journal
    pub cleared : end.cleared ≡ journal.cleared.items
