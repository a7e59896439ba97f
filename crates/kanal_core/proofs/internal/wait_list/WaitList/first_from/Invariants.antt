use Rattle.kanal_core.proofs.Common.{◌≡◌, ◌+◌, ℕ, drop, first_place, IsFirstWhere, FnReturnsAt}
use Rattle.kanal_core.proofs.internal.wait_list.WaitList.first_from.Given as goal

-- wherever the walk began, it is at the first of those that are left, and what is left decides
abbrev pub invariant-loop : goal.invariant-loop
invariant-loop g l =
    (i : ℕ) → l.fn.from ≡ first_place (drop i l.self)
    → (l.at ≡ first_place (drop (i + l.counter) l.self))
    × ((r : _) → IsFirstWhere (FnReturnsAt g.F.Fn l.test) (drop (i + l.counter) l.self) r → IsFirstWhere (FnReturnsAt g.F.Fn l.test) (drop i l.self) r)
