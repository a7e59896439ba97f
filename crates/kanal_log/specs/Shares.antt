-- Shares of the right to add entries: all of it can be halved without an end, and halves can be put together again.
use Rattle.std.specs.Prelude.{◌≡◌, ◌+◌, ◌-◌, ◌<◌, ℕ, zero, suc}
use Rattle.kanal_log.specs.declared.rule.Share.{Share}

-- x, doubled n times
abbrev pub doubled : ℕ → ℕ → ℕ
doubled zero x = x
doubled (suc n) x = doubled n x + doubled n x

-- so many parts, where all of the right is cut into equal parts by so many halvings
abbrev pub parts_of : ℕ → ℕ → Share
parts_of count halvings = record { count = count; halvings = halvings }

-- all of the right
abbrev pub whole : Share
whole = parts_of 1 0

-- no part of it
abbrev pub nothing : Share
nothing = parts_of 0 0

-- half of the share
abbrev pub half : Share → Share
half s = parts_of s.count (s.halvings + 1)

-- two shares together
abbrev pub both : Share → Share → Share
both s t = parts_of (doubled t.halvings s.count + doubled s.halvings t.count) (s.halvings + t.halvings)

-- it is more than nothing
abbrev pub HasShare : Share → Type 0
HasShare s = 0 < s.count

-- it is all of the right
abbrev pub IsWhole : Share → Type 0
IsWhole s = s.count ≡ doubled s.halvings 1

-- how many parts the share is, where all of the right is cut by n halvings
abbrev pub worth : ℕ → Share → ℕ
worth n s = doubled (n - s.halvings) s.count
