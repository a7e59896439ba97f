-- What is kept beside the core, the tickets that were given and the live handles, and how many wait.
use Rattle.std.specs.Prelude.{◌≡◌, ℕ, ◌+◌, ◌<◌, List, [], ◌∷◌, length}
use Rattle.kanal_core.specs.declared.internal.outcome.Ticket.{Ticket}
use Rattle.kanal_core.specs.Channel.{ChannelView}
use Rattle.kanal_core.specs.Line.{Line, last_word, tickets}
use Rattle.kanal_core.specs.Tickets.{number_of}
use Rattle.kanal_events.specs.Given.{AreKept}
use Rattle.kanal_journal.specs.declared.journal.handles.Handles.{Handles}

-- the tickets are numbered from `first` on, and `next` is the number after the last
abbrev pub AreNumbered : ℕ → List Ticket → ℕ → Type 0
AreNumbered first [] next = first ≡ next
AreNumbered first (t ∷ ts) next = (number_of t ≡ first) × AreNumbered (first + 1) ts next

module _ {T W : Type 0} where
  -- these are all the tickets that a channel gave
  pub record AreGiven (given : List Ticket) (c : ChannelView T W) : Type 0 where
    pub numbered : AreNumbered 0 given c.next
    pub kept : AreKept given c.waiters

-- there can be one more live handle of each side
abbrev pub AreFew : Handles → Type 0
AreFew handles = (handles.tx < last_word) × (handles.rx < last_word)

module _ {T : Type 0} where
  -- how many wait
  abbrev pub waiting_count : Line T → ℕ
  waiting_count l = length (tickets l.line) + length l.demands
