-- A journal of calls, and the account of the line that explains it.
use Rattle.std.specs.Prelude.{◌≡◌, ℕ, ◌==◌, cond, List, [], ◌∷◌, ◌++◌, map, Option, Some, None, ◌⊎◌}
use Rattle.kanal_core.specs.declared.internal.outcome.Outcome.{Outcome}
use Rattle.kanal_events.specs.declared.event.Event.{Event}
use Rattle.kanal_journal.specs.declared.journal.report.Settlement.{Settlement}
use Rattle.kanal_events.specs.declared.event.Reply.{Reply}
use Rattle.kanal_journal.specs.declared.journal.recorded_state.Entry.{Entry}
use Rattle.kanal_events.specs.Steps.{no_memory}
use Rattle.kanal_journal.specs.Runs.{Account, made, added, opening_account}
use Rattle.kanal_journal.specs.Paired.{PairedHistory, history_from}

-- a journal: the channel's capacity, the entries, and all that was told so far
pub record Recording (T : Type 0) : Type 0 where
  pub capacity : Option ℕ
  pub entries : List (Entry T)
  pub account : Account T

module _ {T : Type 0} where
  -- the events of the entries, in order
  abbrev pub events_of : List (Entry T) → List (Event T)
  events_of entries = map (λ e. e.event) entries

  -- the replies of the entries, in order
  abbrev pub replies_of : List (Entry T) → List (Reply T)
  replies_of entries = map (λ e. e.reply) entries

  -- the account after one event, which is not refused for memory
  abbrev pub next_account : Account T → Event T → Account T
  next_account old event = added old event (made old.handles old.line event)

  -- the account after all these events
  abbrev pub played : Account T → List (Event T) → Account T
  played old [] = old
  played old (event ∷ events) = played (next_account old event) events

  -- the line of a new channel gives each entry's reply to its event, and ends in this account
  pub record Replays (capacity : Option ℕ) (entries : List (Entry T)) (end : Account T) : Type 0 where
    pub ends : played (opening_account capacity) (events_of entries) ≡ end
    pub replies : end.replies ≡ replies_of entries

  -- a new channel's journal
  abbrev pub opened_recording : Option ℕ → Recording T
  opened_recording capacity = record { capacity = capacity; entries = []; account = opening_account capacity }

  -- the history that a journal tells
  abbrev pub recorded_history : Recording T → PairedHistory T
  recorded_history r = history_from (events_of r.entries) (replies_of r.entries) r.account.settled r.account.drained

  -- what became of the wait with the ticket, if it was settled
  abbrev pub outcome_of : ℕ → List (Settlement T) → Option (Outcome T)
  outcome_of t [] = None
  outcome_of t (s ∷ ss) = cond (s.ticket == t) (Some s.outcome) (outcome_of t ss)

  -- the reply that the line gives to the event where this journal ends
  abbrev pub reply_at : Recording T → Event T → Reply T
  reply_at old event = (made old.account.handles old.account.line event).reply

  -- the journal with one entry more, of this party, event and reply
  abbrev pub longer : Recording T → ℕ → Event T → Reply T → Recording T
  longer old party event reply =
      record {
        capacity = old.capacity;
        entries = old.entries ++ record { party = party; event = event; reply = reply } ∷ [];
        account = next_account old.account event;
      }

  -- one entry was added, with the reply that the line gives; or there was no memory and nothing changed
  abbrev pub Records : Recording T → ℕ → Event T → Reply T → Recording T → Type 0
  Records old party event reply new =
      ((reply ≡ no_memory event) × (new ≡ old))
      ⊎ ((reply ≡ reply_at old event) × (new ≡ longer old party event reply))
