-- What the events of a history lead to, in the words of the journal and of its laws.
use Rattle.std.specs.Prelude.{◌≡◌, ◌≤◌, ℕ, cond, List, [], ◌∷◌, ◌++◌, Option}
use Rattle.kanal_events.specs.declared.event.Refusal.TheVariants.{NoHandle}
use Rattle.kanal_events.specs.declared.event.Reply.{Reply}
use Rattle.kanal_events.specs.declared.event.Reply.TheVariants.{Refused}
use Rattle.kanal_events.specs.Steps.{message_of}
use Rattle.kanal_journal.specs.declared.journal.handles.Handles.{Handles}
use Rattle.kanal_journal.specs.Runs.{Account, Leads, handles_after, has_handle, opening_account}
use Rattle.kanal_journal.specs.Replays.{played}
use Rattle.kanal_journal.specs.Paired.{PairedHistory, along, demands, kept, withdrawn_ticket}
use Rattle.kanal_journal.specs.Laws.{StaysOver, told_history}
use Rattle.kanal_state.specs.declared.call.Call.{Call}
use Rattle.kanal_one_history.specs.Calls.{history_of, line_after}

module _ {T : Type 0} where
  -- the reply to the call where these handles are live: its own if its side has one, or that there is none
  abbrev pub reply_by : Handles → Call T → Reply T
  reply_by handles call = cond (has_handle handles call.event) call.reply (Refused NoHandle (message_of call.event))

  -- the replies to these calls, one after another, where these handles are live at first
  abbrev pub replies_by : Handles → List (Call T) → List (Reply T)
  replies_by handles [] = []
  replies_by handles (c ∷ cs) = reply_by handles c ∷ replies_by (handles_after handles c.event (reply_by handles c)) cs

  -- all messages that these calls cleared
  abbrev pub all_cleared : List (Call T) → List T
  all_cleared [] = []
  all_cleared (c ∷ cs) = c.cleared ++ all_cleared cs

  -- the account of a new channel of this capacity after the events of these calls
  abbrev pub account_after : Option ℕ → List (Call T) → Account T
  account_after capacity log = played (opening_account capacity) (history_of log).events

  -- the history that this account tells of the same events
  abbrev pub history_after : Option ℕ → List (Call T) → PairedHistory T
  history_after capacity log = told_history (history_of log).events (account_after capacity log)

  -- all tickets that were withdrawn
  abbrev pub all_withdrawn : PairedHistory T → List ℕ
  all_withdrawn h = along withdrawn_ticket h.events h.replies

  -- the events of this history lead a new channel to an account that tells the same, but for replies where a side has no live handle
  pub record LeadsAsTold (capacity : Option ℕ) (log : List (Call T)) : Type 0 where
    pub leads : Leads (opening_account capacity) (history_of log).events (account_after capacity log)
    pub line : (account_after capacity log).line ≡ line_after capacity log
    pub settled : (account_after capacity log).settled ≡ (history_of log).settled
    pub drained : (account_after capacity log).drained ≡ (history_of log).drained
    pub cleared : (account_after capacity log).cleared ≡ all_cleared log
    pub replies : (account_after capacity log).replies ≡ replies_by (record { tx = 1; rx = 1 }) log
    pub kept : kept (history_after capacity log) ≡ kept (history_of log)
    pub demands : demands (history_after capacity log) ≡ demands (history_of log)
    pub withdrawn : all_withdrawn (history_after capacity log) ≡ all_withdrawn (history_of log)
    pub senders : (line_after capacity log).senders ≤ (account_after capacity log).handles.tx
    pub receivers : (line_after capacity log).receivers ≤ (account_after capacity log).handles.rx
    pub over : StaysOver (history_of log).events (history_of log).replies
