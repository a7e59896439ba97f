-- When a deadline has come, how long it is until then, and when a look at a cell is late.
use Rattle.std.specs.Prelude.{◌≤◌, ◌<◌, ◌+◌, ℕ}
use Rattle.kanal_cell.specs.declared.backoff.Looked.{Looked}
use Rattle.kanal_cell.specs.declared.backoff.Looked.TheVariants.{Late, Early, Outcome}

-- the clock has answered a moment that is not before the deadline
abbrev pub DeadlineReached : (ℕ → Type 0) → ℕ → Type 0
DeadlineReached answered deadline = (moment : ℕ) × answered moment × (deadline ≤ moment)

-- the clock has answered a moment before the deadline, from which it is so long until then
abbrev pub IsLeft : (ℕ → Type 0) → ℕ → ℕ → Type 0
IsLeft answered deadline left = (moment : ℕ) × answered moment × (0 < left) × (moment + left ≤ deadline)

-- who looked in vain and is late shows that the deadline has come
abbrev pub LooksUntil : {P : Type 0} → Type 0 → Looked P → Type 0
LooksUntil come (Late waiter) = come
LooksUntil come (Early waiter) = Unit {0}
LooksUntil come (Outcome outcome) = Unit {0}
