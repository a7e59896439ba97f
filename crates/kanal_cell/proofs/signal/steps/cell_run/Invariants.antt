use Rattle.kanal_cell.proofs.Common.{◌≡◌, length, ℕ, ◌<◌, Some, slice_get, CellStep, told_at}
use Rattle.kanal_cell.proofs.CellPlaces.{StateAt}
use Rattle.kanal_cell.proofs.signal.steps.cell_run.Given as goal

abbrev pub invariant-loop-step : goal.invariant-loop-step
invariant-loop-step l = record {
  long : length l.replies.items ≡ l.step-index;
  state : StateAt l.steps l.step-index l.core;
  said : (k : ℕ) (x : CellStep) → k < l.step-index → slice_get l.steps k ≡ Some x → slice_get l.replies.items k ≡ Some (told_at l.steps k x);
}
