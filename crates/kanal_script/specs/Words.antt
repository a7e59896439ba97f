-- How a line is cut into words.
use Rattle.std.specs.Prelude.{◌≡◌, ◌≢◌, ◌⊎◌, ◌<◌, ◌==◌, ◌||◌, ◌^◌, ℕ, Bool, cond, List, [], ◌∷◌, Option, Some, None, codes, decimal}
use Rattle.kanal_events.specs.declared.event.Event.{Event}
use Rattle.kanal_events.specs.declared.event.Event.TheVariants.{Send, TrySend, Recv, RecvLate, TryRecv, Drain, Withdraw, CloneTx, CloneRx, DropTx, DropRx, Seal, Close, Ask as Asks, Terminated}

-- a space or a line feed
abbrev pub is_separator : ℕ → Bool
is_separator b = (b == 32) || (b == 10)

-- what stands before the first separator,
abbrev pub word_of : List ℕ → List ℕ
word_of [] = []
word_of (b ∷ bs) = cond (is_separator b) [] (b ∷ word_of bs)

-- and the rest from it on
abbrev pub after_word : List ℕ → List ℕ
after_word [] = []
after_word (b ∷ bs) = cond (is_separator b) (b ∷ bs) (after_word bs)

-- ASCII without a separator
abbrev pub IsWord : List ℕ → Type 0
IsWord [] = Unit {0}
IsWord (b ∷ bs) = (b < 128) × (b ≢ 32) × (b ≢ 10) × IsWord bs

-- a word ends before this
abbrev pub EndsWord : List ℕ → Type 0
EndsWord [] = Unit {0}
EndsWord (b ∷ bs) = (b ≡ 32) ⊎ (b ≡ 10)

-- the capacity is one that a word of the machine holds, or none
abbrev pub FitsWord : Option ℕ → Type 0
FitsWord None = Unit {0}
FitsWord (Some n) = n < 2 ^ 64

-- what stands behind the name of a capacity's line
abbrev pub limit_word : Option ℕ → List ℕ
limit_word None = codes "unbounded"
limit_word (Some n) = decimal n

-- a line ends before this
abbrev pub EndsLine : List ℕ → Type 0
EndsLine [] = Unit {0}
EndsLine (b ∷ bs) = b ≡ 10

-- the event's number, if it has one, is one that a word of the machine holds
abbrev pub EventFits : Event ℕ → Type 0
EventFits (Send n) = n < 2 ^ 64
EventFits (TrySend n) = n < 2 ^ 64
EventFits Recv = Unit {0}
EventFits RecvLate = Unit {0}
EventFits TryRecv = Unit {0}
EventFits Drain = Unit {0}
EventFits (Withdraw n) = n < 2 ^ 64
EventFits CloneTx = Unit {0}
EventFits CloneRx = Unit {0}
EventFits DropTx = Unit {0}
EventFits DropRx = Unit {0}
EventFits Seal = Unit {0}
EventFits Close = Unit {0}
EventFits (Asks side ask) = Unit {0}
EventFits Terminated = Unit {0}

-- each event's number, if it has one, is one that a word of the machine holds
abbrev pub EventsFit : List (Event ℕ) → Type 0
EventsFit [] = Unit {0}
EventsFit (event ∷ events) = EventFits event × EventsFit events
