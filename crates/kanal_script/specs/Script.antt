-- How a script is written.
use Rattle.std.specs.Prelude.{◌≡◌, ℕ, List, [], ◌∷◌, ◌++◌, Option, Some, None, codes, decimal, ◌⊎◌, ◌≢◌, slice_index, length}
use Rattle.kanal_events.specs.declared.event.Side.{Side}
use Rattle.kanal_events.specs.declared.event.Side.TheVariants.{Tx, Rx}
use Rattle.kanal_events.specs.declared.event.Ask.{Ask}
use Rattle.kanal_events.specs.declared.event.Ask.TheVariants.{IsBounded, Len, IsEmpty, IsFull, Capacity, ReceiverCount, SenderCount, IsClosed, IsDisconnected}
use Rattle.kanal_events.specs.declared.event.Event.{Event}
use Rattle.kanal_events.specs.declared.event.Event.TheVariants.{Send, TrySend, Recv, RecvLate, TryRecv, Drain, Withdraw, CloneTx, CloneRx, DropTx, DropRx, Seal, Close, Ask as Asks, Terminated}

-- a line: its words, and a line feed
abbrev pub line : List ℕ → List ℕ
line words = words ++ (10 ∷ [])

-- the first line's words: how many messages the channel holds at most
abbrev pub capacity_words : Option ℕ → List ℕ
capacity_words None = codes "cap unbounded"
capacity_words (Some capacity) = codes "cap " ++ decimal capacity

-- the name of a side
abbrev pub side_word : Side → List ℕ
side_word Tx = codes "tx"
side_word Rx = codes "rx"

-- the name of a question
abbrev pub ask_word : Ask → List ℕ
ask_word IsBounded = codes "is_bounded"
ask_word Len = codes "len"
ask_word IsEmpty = codes "is_empty"
ask_word IsFull = codes "is_full"
ask_word Capacity = codes "capacity"
ask_word ReceiverCount = codes "receiver_count"
ask_word SenderCount = codes "sender_count"
ask_word IsClosed = codes "is_closed"
ask_word IsDisconnected = codes "is_disconnected"

-- an event's words
abbrev pub event_words : Event ℕ → List ℕ
event_words (Send message) = codes "send " ++ decimal message
event_words (TrySend message) = codes "try_send " ++ decimal message
event_words Recv = codes "recv"
event_words RecvLate = codes "recv_late"
event_words TryRecv = codes "try_recv"
event_words Drain = codes "drain"
event_words (Withdraw ticket) = codes "withdraw " ++ decimal ticket
event_words CloneTx = codes "clone_tx"
event_words CloneRx = codes "clone_rx"
event_words DropTx = codes "drop_tx"
event_words DropRx = codes "drop_rx"
event_words Seal = codes "seal"
event_words Close = codes "close"
event_words (Asks side ask) = codes "ask " ++ (side_word side ++ (32 ∷ ask_word ask))
event_words Terminated = codes "terminated"

-- the events' lines
abbrev pub events_text : List (Event ℕ) → List ℕ
events_text [] = []
events_text (event ∷ events) = line (event_words event) ++ events_text events

-- a whole script
abbrev pub script_text : Option ℕ → List (Event ℕ) → List ℕ
script_text capacity events = line (capacity_words capacity) ++ events_text events

-- the bytes begin with the text, and go on with the rest; the last line feed of all may be left out
abbrev pub IsReadTo : List ℕ → List ℕ → List ℕ → Type 0
IsReadTo bytes text rest = (bytes ≡ text ++ rest) ⊎ ((line bytes ≡ text) × (rest ≡ []))

-- the bytes are the text, of which the last line feed may be left out
abbrev pub IsWritten : List ℕ → List ℕ → Type 0
IsWritten bytes text = (bytes ≡ text) ⊎ (line bytes ≡ text)

-- the word begins with no plus sign, and with a zero only if it is just that
abbrev pub IsPlain : List ℕ → Type 0
IsPlain word = (slice_index word 0 ≢ 43) × (slice_index word 0 ≡ 48 → length word ≡ 1)
