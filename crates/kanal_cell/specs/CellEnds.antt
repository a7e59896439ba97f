-- What a caller sees of an end.
use Rattle.std.specs.Prelude.{◌≡◌, true, false, Option}
use Rattle.atomic_table.specs.Seated.{TableId}
use Rattle.futures.specs.declared.task.waker.Waker.{Waker}
use Rattle.kanal_cell.specs.declared.signal.rule.Bits.{Bits}
use Rattle.kanal_cell.specs.declared.signal.rule.CellView.{CellView}
use Rattle.kanal_cell.specs.declared.signal.WaitEnd.{WaitEnd}
use Rattle.kanal_cell.specs.declared.signal.SettleEnd.{SettleEnd}
use Rattle.kanal_cell.specs.declared.signal.settlement.SettleProof.{SettleProof}

-- the end goes on as this step does where it finds what it found
abbrev pub GoesOn : (CellView → Bits → CellView) → CellView → CellView → Type 0
GoesOn after old new = new ≡ after old new.found

-- the step found the outcome there, which the waiter had not taken before
abbrev pub FindsOutcome : CellView → CellView → Type 0
FindsOutcome old new = (new.found.ended ≡ true) × (old.had ≡ false)

-- the name of a cell
abbrev pub CellName : Type 0
CellName = TableId

module _ {P : Type 0} where
  -- the cell that the waiter waits for
  abbrev pub wait_cell : WaitEnd P → CellName
  wait_cell e = e.seat.table_id

  -- the cell that the settler settles
  abbrev pub settle_cell : SettleEnd P → CellName
  settle_cell e = e.seat.table_id

  -- what the waiter knows of its own steps
  abbrev pub wait_view : WaitEnd P → CellView
  wait_view e = e.seat.me.0

  -- what the settler knows of its own steps
  abbrev pub settle_view : SettleEnd P → CellView
  settle_view e = e.seat.me.0

  -- the waker that a settle will wake
  abbrev pub kept_waker : SettleEnd P → Option Waker
  kept_waker e = e.waker

  -- what the waiter waits for is what the settler settles
  abbrev pub AreOfOneCell : WaitEnd P → SettleEnd P → Type 0
  AreOfOneCell wait settle = wait_cell wait ≡ settle_cell settle

  -- the settler is that of the same cell as before
  abbrev pub StaysAtCell : SettleEnd P → SettleEnd P → Type 0
  StaysAtCell old new = settle_cell new ≡ settle_cell old

  -- the cell of this settler was settled with this outcome
  abbrev pub WasSettled : SettleProof P → SettleEnd P → P → Type 0
  WasSettled shown end outcome = (settle_cell shown.end.value ≡ settle_cell end) × (shown.outcome.value ≡ outcome)
