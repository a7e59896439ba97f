use Rattle.kanal_recorded.proofs.Common.{◌≡◌, ◌+◌, length, take, sum_by}
use Rattle.kanal_recorded.proofs.finish.are_as_many.Given as goal

abbrev pub invariant-loop-pass : goal.invariant-loop-pass
invariant-loop-pass g l = l.left + sum_by (λ p. length p.notes) (take l.pass-index l.passes) ≡ l.entries
