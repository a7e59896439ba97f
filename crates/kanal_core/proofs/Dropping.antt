-- Dropped handles, as steps of the line.
use Rattle.kanal_core.proofs.Common.{ℕ, List, [], length, map, Option, refl, append-nil, Reason, Waiter, IsWithin, end_all, ended_by, line_of, settlement, MovesTo, IsOneSided}
use Rattle.kanal_core.proofs.Sided.{under-line, ends-line}
use Rattle.kanal_core.proofs.Stepping.{row}

module _ {T W : Type 0} (c : Option ℕ) (s r n : ℕ) (ms : List T) (ws : List (Waiter T W)) (side : IsOneSided ms c ws) (within : IsWithin (length ms) c) where
  -- all that wait leave, and the buffer stays
  pub ends-all : (reason : Reason) → MovesTo (end_all (line_of (row c s r n ms ws)) reason) (map settlement (map (ended_by reason) ws)) (line_of (row {W = W} c s r n ms []))
  ends-all reason = rw (under-line ms c ws side within, ends-line ms c ws side within reason, append-nil) refl
