-- What a contract sees of a channel's core, and the line that it stands for.
use Rattle.std.specs.Prelude.{ℕ, ◌-◌, ◌==◌, cond, List, [], ◌∷◌, ◌++◌, map, Option, Some, None}
use Rattle.std.specs.List.{filter_map}
use Rattle.std.specs.Option.{option_map}
use Rattle.kanal_core.specs.declared.internal.outcome.Reason.{Reason}
use Rattle.kanal_core.specs.declared.internal.outcome.Outcome.{Outcome}
use Rattle.kanal_core.specs.declared.internal.outcome.Outcome.TheVariants.{Taken, Ended}
use Rattle.kanal_core.specs.declared.internal.outcome.Settled.{Settled}
use Rattle.kanal_core.specs.declared.internal.outcome.Waiter.{Waiter}
use Rattle.kanal_core.specs.Line.{LineEntry, Line, bare, waiting}
use Rattle.kanal_core.specs.Waiters.{receiver_first, sender_first}

-- the buffer from front to back, those that wait from the oldest on, and the counts
pub record ChannelView (T W : Type 0) : Type 0 where
  pub buffer : List T
  pub waiters : List (Waiter T W)
  pub capacity : Option ℕ
  pub senders : ℕ
  pub receivers : ℕ
  pub next : ℕ

-- the ticket of a waiter that brought no message
abbrev pub unserved : {T : Type 0} → Option T → ℕ → Option ℕ
unserved None t = Some t
unserved (Some m) t = None

module _ {T W : Type 0} where
  -- a waiting sender's place in the line
  abbrev pub entry_of : Waiter T W → Option (LineEntry T)
  entry_of w = option_map (λ m. waiting m w.ticket.number) w.message

  -- a waiting receiver's demand
  abbrev pub demand_of : Waiter T W → Option ℕ
  demand_of w = unserved w.message w.ticket.number

  -- the line: the buffer and then the messages of the waiting senders; the waiting receivers are its demands
  abbrev pub line_of : ChannelView T W → Line T
  line_of c =
      record {
        capacity = c.capacity;
        line = map bare c.buffer ++ filter_map entry_of c.waiters;
        demands = filter_map demand_of c.waiters;
        senders = c.senders;
        receivers = c.receivers;
        next = c.next;
      }

  -- a new channel
  abbrev pub opening : Option ℕ → ChannelView T W
  opening capacity = record { buffer = []; waiters = []; capacity = capacity; senders = 1; receivers = 1; next = 0 }

  -- a channel with these numbers, in which nothing is and nobody waits
  abbrev pub starting : Option ℕ → ℕ → ℕ → ℕ → ChannelView T W
  starting capacity first senders receivers = record { buffer = []; waiters = []; capacity = capacity; senders = senders; receivers = receivers; next = first }

  -- a channel that was sealed: no sender is left, and receivers wait no more
  abbrev pub sealed : ChannelView T W → ChannelView T W
  sealed c = record c { waiters = cond (receiver_first c.waiters) [] c.waiters; senders = 0 }

  -- a channel that was closed
  abbrev pub closed : ChannelView T W → ChannelView T W
  closed c = record c { buffer = []; waiters = []; senders = 0; receivers = 0 }

  -- how a waiter ends
  abbrev pub ended_by : Reason → Waiter T W → Settled T W
  ended_by reason w = record { ticket = w.ticket; w = w.w; outcome = Ended reason w.message }

  -- how a waiter leaves whose message was taken
  abbrev pub taken_by : Waiter T W → Settled T W
  taken_by w = record { ticket = w.ticket; w = w.w; outcome = Taken }

  -- a channel after a drop of a sender: with the last one all that wait leave
  abbrev pub sender_dropped : ChannelView T W → ChannelView T W
  sender_dropped c = record c { waiters = cond (c.senders == 1) [] c.waiters; senders = c.senders - 1 }

  -- a channel after a drop of a receiver: with the last one all that wait leave
  abbrev pub receiver_dropped : ChannelView T W → ChannelView T W
  receiver_dropped c = record c { waiters = cond (c.receivers == 1) [] c.waiters; receivers = c.receivers - 1 }

  -- a channel after a drain: the buffer and the waiting senders leave, and waiting receivers stay
  abbrev pub after_drain : ChannelView T W → ChannelView T W
  after_drain c = record c { buffer = []; waiters = cond (sender_first c.waiters) [] c.waiters }

  -- a settled waiter, as the line tells it
  abbrev pub settlement : Settled T W → ℕ × Outcome T
  settlement s = (s.ticket.number, s.outcome)

  -- at most one settled waiter, as the line tells it
  abbrev pub settlements : Option (Settled T W) → List (ℕ × Outcome T)
  settlements None = []
  settlements (Some s) = settlement s ∷ []
