-- One step of the plain cell: what it replies, and the cell after it.
use Rattle.std.specs.Prelude.{ℕ, ◌+◌, Bool, true, false, not, ◌&&◌, ◌||◌, Some, None, if◌then◌else◌}
use Rattle.kanal_cell.specs.declared.signal.steps.CellCore.{CellCore}
use Rattle.kanal_cell.specs.declared.signal.steps.CellStep.{CellStep}
use Rattle.kanal_cell.specs.declared.signal.steps.CellStep.TheVariants.{Sleep, Settle, Poll, Leave, IsLeft}
use Rattle.kanal_cell.specs.declared.signal.steps.CellReply.{CellReply}
use Rattle.kanal_cell.specs.declared.signal.steps.CellReply.TheVariants.{Slept, Outcome, Pending, Settled, Left, Flag, Spent}
use Rattle.kanal_cell.specs.declared.signal.steps.Owner.{Owner}
use Rattle.kanal_cell.specs.declared.signal.steps.Owner.TheVariants.{Nowhere, Home, Waiter, Settler}

abbrev pub cell : Bool → Bool → Bool → Bool → Bool → ℕ → CellCore
cell s e l h b v = record { sleeping = s; ended = e; left = l; had = h; back = b; value = v }

-- nothing has happened
abbrev pub empty : CellCore
empty = cell false false false false false 0

-- the outcome stands in the cell
abbrev pub is_home : CellCore → Bool
is_home c = c.ended && not c.back && not c.had

-- the reply to a step
abbrev pub cell_reply : CellCore → CellStep → CellReply
cell_reply c Sleep = if c.sleeping || c.left || c.had then Spent else if is_home c then Outcome c.value else Slept
cell_reply c (Settle p) = if c.ended then Spent else Settled c.sleeping (if c.left then Some p else None)
cell_reply c Poll = if c.left then Spent else if is_home c then Outcome c.value else Pending
cell_reply c Leave = if c.left then Spent else Left (if is_home c then Some c.value else None)
cell_reply c IsLeft = if c.ended then Spent else Flag c.left

-- the cell after a step: a spent one changes nothing, and one that finds the outcome at home gives it to the waiter
abbrev pub cell_after : CellCore → CellStep → CellCore
cell_after c Sleep = if c.sleeping || c.left || c.had then c else cell true c.ended c.left (c.had || is_home c) c.back c.value
cell_after c (Settle p) = if c.ended then c else cell c.sleeping true c.left c.had c.left p
cell_after c Poll = if c.left then c else cell c.sleeping c.ended c.left (c.had || is_home c) c.back c.value
cell_after c Leave = if c.left then c else cell c.sleeping c.ended true (c.had || is_home c) c.back c.value
cell_after c IsLeft = c

-- 1 for a sleeper, 2 for a settled cell, 4 for a waiter that left
abbrev pub cell_word : CellCore → ℕ
cell_word c = (if c.sleeping then 1 else 0) + (if c.ended then 2 else 0) + (if c.left then 4 else 0)

-- where the outcome is
abbrev pub owner_of : CellCore → Owner
owner_of c = if not c.ended then Nowhere else if c.back then Settler else if c.had then Waiter else Home
