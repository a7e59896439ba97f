-- A channel as one line of messages and a list of demands.
use Rattle.std.specs.Prelude.{ℕ, ◌≤◌, ◌==◌, nat_lt, filter, Bool, true, false, cond, List, [], ◌∷◌, length, map, take, drop, Option, Some, None}
use Rattle.std.specs.List.{filter_map, list_any}

-- a message in the line, with the ticket of the send that waits with it
pub record LineEntry (T : Type 0) : Type 0 where
  pub message : T
  pub ticket : Option ℕ

-- a capacity of None is no limit; the demands are the tickets of the receives that wait
pub record Line (T : Type 0) : Type 0 where
  pub capacity : Option ℕ
  pub line : List (LineEntry T)
  pub demands : List ℕ
  pub senders : ℕ
  pub receivers : ℕ
  pub next : ℕ

-- the largest word, which is no ticket's number
abbrev pub last_word : ℕ
last_word = 18446744073709551615

-- n is all that the capacity allows
abbrev pub is_at : ℕ → Option ℕ → Bool
is_at n None = false
is_at n (Some c) = n == c

-- there is a limit
abbrev pub is_bounded : Option ℕ → Bool
is_bounded None = false
is_bounded (Some c) = true

-- the capacity as one word, which is the largest where there is no limit
abbrev pub capacity_word : Option ℕ → ℕ
capacity_word None = last_word
capacity_word (Some c) = c

-- n is below the capacity
abbrev pub is_below : ℕ → Option ℕ → Bool
is_below n None = true
is_below n (Some c) = nat_lt n c

-- n is not above the capacity
abbrev pub IsWithin : ℕ → Option ℕ → Type 0
IsWithin n None = Unit {0}
IsWithin n (Some c) = n ≤ c

module _ {X : Type 0} where
  -- the places below the capacity, which are the buffer
  abbrev pub under : Option ℕ → List X → List X
  under None xs = xs
  under (Some c) xs = take c xs

  -- the places at and above the capacity, which wait
  abbrev pub over : Option ℕ → List X → List X
  over None xs = []
  over (Some c) xs = drop c xs

  -- nothing is in the list
  abbrev pub is_empty : List X → Bool
  is_empty [] = true
  is_empty (x ∷ xs) = false

-- the number is in the list
abbrev pub has : ℕ → List ℕ → Bool
has t ts = list_any (λ u. u == t) ts

-- the ticket may be there, and has this number
abbrev pub is_ticket : ℕ → Option ℕ → Bool
is_ticket t None = false
is_ticket t (Some u) = u == t

module _ {T : Type 0} where
  -- an entry that waits for nothing
  abbrev pub bare : T → LineEntry T
  bare m = record { message = m; ticket = None }

  -- an entry whose send waits with ticket t
  abbrev pub waiting : T → ℕ → LineEntry T
  waiting m t = record { message = m; ticket = Some t }

  -- the messages of the entries, in order
  abbrev pub messages : List (LineEntry T) → List T
  messages line = map (λ e. e.message) line

  -- the tickets that wait in the line, in order
  abbrev pub tickets : List (LineEntry T) → List ℕ
  tickets line = filter_map (λ e. e.ticket) line

  -- the entry waits with ticket t
  abbrev pub holds_ticket : ℕ → LineEntry T → Bool
  holds_ticket t e = is_ticket t e.ticket

  -- the messages of the entries that wait with ticket t
  abbrev pub found : ℕ → List (LineEntry T) → List T
  found t line = messages (filter (holds_ticket t) line)

  -- a message may enter: a demand waits, or the line is shorter than the capacity
  abbrev pub has_place : Line T → Bool
  has_place old = cond (is_empty old.demands) (is_below (length old.line) old.capacity) true

  -- how many messages are in the buffer
  abbrev pub buffered : Line T → ℕ
  buffered old = length (under old.capacity old.line)
