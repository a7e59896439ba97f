-- Which messages and which demands were kept, read from the history alone, and that they are paired in order.
use Rattle.std.specs.Prelude.{◌≡◌, ℕ, ◌-◌, ◌==◌, nat_lt, Bool, true, false, not, ◌&&◌, ◌||◌, cond, List, [], ◌∷◌, ◌++◌, length, map, filter, take, drop, replicate, sum_by, Option, Some, None}
use Rattle.std.specs.List.{list_any}
use Rattle.std.specs.Option.{option_or}
use Rattle.kanal_core.specs.declared.internal.outcome.Outcome.{Outcome}
use Rattle.kanal_core.specs.declared.internal.outcome.Outcome.TheVariants.{Given, Ended}
use Rattle.kanal_events.specs.declared.event.Event.{Event}
use Rattle.kanal_events.specs.declared.event.Event.TheVariants.{Send, TrySend, Recv, RecvLate, TryRecv, Drain, Withdraw}
use Rattle.kanal_events.specs.declared.event.Reply.{Reply}
use Rattle.kanal_events.specs.declared.event.Reply.TheVariants.{Sent, Waits, Yes, Got, Drained, Withdrawn, Cleared}
use Rattle.kanal_journal.specs.declared.journal.report.Settlement.{Settlement}
use Rattle.kanal_journal.specs.declared.journal.report.Report.{Report}

-- what f reads from each step, in order
abbrev pub along : {E R X : Type 0} → (E → R → List X) → List E → List R → List X
along f [] replies = []
along f (e ∷ es) [] = []
along f (e ∷ es) (r ∷ rs) = f e r ++ along f es rs

-- the list without its last n
abbrev pub without_last : {X : Type 0} → ℕ → List X → List X
without_last n xs = take (length xs - n) xs

-- a demand: it got its message at once, it waits for one, or it takes the next that is drained
pub data Demand (T : Type 0) : Type 0 where
  AtOnce : T → Demand T
  Later : ℕ → Demand T
  Next : Demand T

-- a history: the events, their replies, the settlements of these steps and what was drained
pub record PairedHistory (T : Type 0) : Type 0 where
  pub events : List (Event T)
  pub replies : List (Reply T)
  pub settled : List (Settlement T)
  pub drained : List T

module _ {T : Type 0} where
  -- the history of these events, of which this was told
  abbrev pub history_from : List (Event T) → List (Reply T) → List (Settlement T) → List T → PairedHistory T
  history_from events replies settled drained = record { events = events; replies = replies; settled = settled; drained = drained }

  -- the history that a report tells of these events
  abbrev pub history : List (Event T) → Report T → PairedHistory T
  history events report = history_from events report.replies.items report.settled.items report.drained.items

  -- the first n steps; what was drained stands whole, since each drain's own count says how much of it is read
  abbrev pub until : ℕ → PairedHistory T → PairedHistory T
  until n h = record { events = take n h.events; replies = take n h.replies; settled = filter (λ s. nat_lt s.step n) h.settled; drained = h.drained }

  -- the message that entered at this step, with its ticket if its send waits
  abbrev pub sent : Event T → Reply T → List (T × Option ℕ)
  sent (Send m) Sent = (m, None) ∷ []
  sent (Send m) (Waits t) = (m, Some t) ∷ []
  sent (TrySend m) Yes = (m, None) ∷ []
  sent event reply = []

  -- the demands of this step
  abbrev pub asked : Event T → Reply T → List (Demand T)
  asked Recv (Got m) = AtOnce m ∷ []
  asked Recv (Waits t) = Later t ∷ []
  asked RecvLate (Got m) = AtOnce m ∷ []
  asked TryRecv (Got m) = AtOnce m ∷ []
  asked Drain (Drained n) = replicate n Next
  asked event reply = []

  -- the ticket that was withdrawn at this step
  abbrev pub withdrawn_ticket : Event T → Reply T → List ℕ
  withdrawn_ticket (Withdraw t) (Withdrawn m) = t ∷ []
  withdrawn_ticket event reply = []

  -- a wait ended
  abbrev pub is_ended : Outcome T → Bool
  is_ended (Ended reason m) = true
  is_ended outcome = false

  -- the ticket was withdrawn or ended
  abbrev pub is_gone : PairedHistory T → ℕ → Bool
  is_gone h t = list_any (λ u. u == t) (along withdrawn_ticket h.events h.replies) || list_any (λ s. (s.ticket == t) && is_ended s.outcome) h.settled

  -- the message that an outcome gives
  abbrev pub gift_of : Outcome T → Option T
  gift_of (Given m) = Some m
  gift_of outcome = None

  -- what a settlement gives to the ticket
  abbrev pub gift : ℕ → Settlement T → Option T
  gift t s = cond (s.ticket == t) (gift_of s.outcome) None

  -- what the ticket was given
  abbrev pub given : List (Settlement T) → ℕ → Option T
  given [] t = None
  given (s ∷ ss) t = option_or (gift t s) (given ss t)

  -- how many messages were cleared at this step
  abbrev pub cleared_by : Reply T → ℕ
  cleared_by (Cleared n) = n
  cleared_by reply = 0

  -- a send that does not wait is kept, and one that waits unless its ticket was withdrawn or ended
  abbrev pub send_stays : PairedHistory T → T × Option ℕ → Bool
  send_stays h (m, None) = true
  send_stays h (m, Some t) = not (is_gone h t)

  -- a demand is kept unless its ticket was withdrawn or ended
  abbrev pub demand_stays : PairedHistory T → Demand T → Bool
  demand_stays h (Later t) = not (is_gone h t)
  demand_stays h demand = true

  -- the kept messages: those that entered, without those whose ticket was withdrawn or ended, and without the last ones if these were cleared
  abbrev pub kept : PairedHistory T → List T
  kept h = without_last (sum_by cleared_by h.replies) (map (λ s. s.0) (filter (send_stays h) (along sent h.events h.replies)))

  -- the kept demands
  abbrev pub demands : PairedHistory T → List (Demand T)
  demands h = filter (demand_stays h) (along asked h.events h.replies)

  -- what each of the demands received, where these messages were drained
  abbrev pub receipts_from : List (Settlement T) → List (Demand T) → List T → List (Option T)
  receipts_from settled [] drained = []
  receipts_from settled (AtOnce m ∷ ds) drained = Some m ∷ receipts_from settled ds drained
  receipts_from settled (Later t ∷ ds) drained = given settled t ∷ receipts_from settled ds drained
  receipts_from settled (Next ∷ ds) [] = None ∷ receipts_from settled ds []
  receipts_from settled (Next ∷ ds) (m ∷ ms) = Some m ∷ receipts_from settled ds ms

  -- what each kept demand received
  abbrev pub receipts : PairedHistory T → List (Option T)
  receipts h = receipts_from h.settled (demands h) h.drained

  -- the i-th demand received the i-th message, and nothing if there is none
  abbrev pub ArePaired : List (Option T) → List T → Type 0
  ArePaired [] ms = Unit {0}
  ArePaired (r ∷ rs) [] = (r ≡ None) × ArePaired rs []
  ArePaired (r ∷ rs) (m ∷ ms) = (r ≡ Some m) × ArePaired rs ms

  -- the i-th kept message went to the i-th kept demand as soon as both were there
  abbrev pub Paired : PairedHistory T → Type 0
  Paired h = ArePaired (receipts h) (kept h)

  -- the kept messages that went to no demand
  abbrev pub rest : PairedHistory T → List T
  rest h = drop (length (demands h)) (kept h)
