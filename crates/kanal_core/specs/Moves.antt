-- How the line moves: what enters, what is served, what leaves and what ends.
use Rattle.std.specs.Prelude.{ℕ, ◌+◌, ◌-◌, ◌==◌, cond, not, filter, List, [], ◌∷◌, ◌++◌, map, Option, Some, None}
use Rattle.std.specs.List.{filter_map}
use Rattle.std.specs.Option.{option_map}
use Rattle.kanal_core.specs.declared.internal.outcome.Reason.{Reason}
use Rattle.kanal_core.specs.declared.internal.outcome.Reason.TheVariants.{Closed as ByClose, SendClosed, ReceiveClosed}
use Rattle.kanal_core.specs.declared.internal.outcome.Outcome.{Outcome}
use Rattle.kanal_core.specs.declared.internal.outcome.Outcome.TheVariants.{Taken, Given, Ended}
use Rattle.kanal_core.specs.Line.{LineEntry, Line, under, over, bare, waiting, messages, tickets, holds_ticket}

-- the largest count of a side's handles
abbrev pub last_count : ℕ
last_count = 4294967295

-- a count with one more: what is 0 stays 0
abbrev pub raised : ℕ → ℕ
raised n = cond (n == 0) 0 (n + 1)

-- a move: the line after it, and the tickets that it settled, oldest first
pub record Moved (T : Type 0) : Type 0 where
  pub line : Line T
  pub settled : List (ℕ × Outcome T)

module _ {T : Type 0} where
  -- nothing is settled
  abbrev pub none_settled : Line T → Moved T
  none_settled line = record { line = line; settled = [] }

  -- Serving: while a message and a demand are there, the front goes to the first demand.
  -- One side of a channel's line is always empty, so only an entering message is ever served here. Moves go by the
  -- tickets in the entries; that a send waits by its place is a law, `tickets_follow_places` of `kanal_journal::laws`.
  abbrev pub serve : Line T → List (LineEntry T) → List ℕ → Moved T
  serve old line [] = none_settled (record old { line = line; demands = [] })
  serve old [] (d ∷ ds) = none_settled (record old { line = []; demands = d ∷ ds })
  serve old (e ∷ es) (d ∷ ds) = let rest = serve old es ds in record rest { settled = (d, Given e.message) ∷ rest.settled }

  -- Entering: the message goes to the line's end, and is served if a demand waits.
  abbrev pub enter : Line T → T → Moved T
  enter old m = serve old (old.line ++ bare m ∷ []) old.demands

  -- the entries whose place is below the capacity wait no more
  abbrev pub seated : Option ℕ → List (LineEntry T) → List (LineEntry T)
  seated capacity line = map (λ e. bare e.message) (under capacity line) ++ over capacity line

  -- the sends that waited with these entries are settled as taken
  abbrev pub taken : List (LineEntry T) → List (ℕ × Outcome T)
  taken entries = map (λ t. (t, Taken)) (tickets entries)

  -- Leaving: some entries leave from the front; they, and those whose place falls below the capacity, wait no more.
  abbrev pub leave : Line T → List (LineEntry T) → List (LineEntry T) → Moved T
  leave old gone rest = record { line = record old { line = seated old.capacity rest }; settled = taken (gone ++ under old.capacity rest) }

  -- Draining: the whole line leaves.
  abbrev pub drain : Line T → Moved T
  drain old = record { line = record old { line = [] }; settled = taken old.line }

  -- Waiting: a send joins the line's end with the next ticket,
  abbrev pub wait_send : Line T → T → Line T
  wait_send old m = record old { line = old.line ++ waiting m old.next ∷ []; next = old.next + 1 }

  -- and a receive joins the demands' end.
  abbrev pub wait_recv : Line T → Line T
  wait_recv old = record old { demands = old.demands ++ old.next ∷ []; next = old.next + 1 }

  -- Withdrawing: the entry that waits with the ticket leaves,
  abbrev pub without_entry : Line T → ℕ → Line T
  without_entry old t = record old { line = filter (λ e. not (holds_ticket t e)) old.line }

  -- or the demand with the ticket.
  abbrev pub without_demand : Line T → ℕ → Line T
  without_demand old t = record old { demands = filter (λ u. not (u == t)) old.demands }

  -- the end of a send that waits, with its message
  abbrev pub ended_entry : Reason → LineEntry T → Option (ℕ × Outcome T)
  ended_entry reason e = option_map (λ t. (t, Ended reason (Some e.message))) e.ticket

  -- Ending: each ticket that waits ends, with its message if it has one.
  abbrev pub ended : Reason → Line T → List (ℕ × Outcome T)
  ended reason old = filter_map (ended_entry reason) old.line ++ map (λ t. (t, Ended reason None)) old.demands

  -- all that waits ends, and the places below the capacity stay
  abbrev pub end_all : Line T → Reason → Moved T
  end_all old reason = record { line = record old { line = under old.capacity old.line; demands = [] }; settled = ended reason old }

  -- Adding: a count that is not 0 rises by one.
  abbrev pub add_sender : Line T → Line T
  add_sender old = record old { senders = raised old.senders }

  abbrev pub add_receiver : Line T → Line T
  add_receiver old = record old { receivers = raised old.receivers }

  -- Dropping: a count that is not 0 falls by one, and the last of a side ends all that waits.
  abbrev pub drop_sender : Line T → Moved T
  drop_sender old =
      cond (old.senders == 1) (end_all (record old { senders = 0 }) SendClosed) (none_settled (record old { senders = old.senders - 1 }))

  abbrev pub drop_receiver : Line T → Moved T
  drop_receiver old =
      cond (old.receivers == 1) (end_all (record old { receivers = 0 }) ReceiveClosed) (none_settled (record old { receivers = old.receivers - 1 }))

  -- Sealing: no sender is left, and each demand ends; the line stays.
  abbrev pub seal : Line T → Moved T
  seal old = record { line = record old { demands = []; senders = 0 }; settled = map (λ t. (t, Ended SendClosed None)) old.demands }

  -- Closing: all that waits ends, and nothing is left.
  abbrev pub close : Line T → Moved T
  close old =
      record {
        line = record old { line = []; demands = []; senders = 0; receivers = 0 };
        settled = ended ByClose old;
      }

  -- what a close clears: the messages in the buffer
  abbrev pub cleared : Line T → List T
  cleared old = messages (under old.capacity old.line)
