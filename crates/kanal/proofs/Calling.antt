-- What a call says of its pass it says of its caller, whose pass it was lent and gave back.
use Rattle.std.proofs.Common.{◌≡◌, subst}

module _ {P : Type 0} (says : P → P → Type 0) {old new before after owed : P} where
  pub by_caller : old ≡ before → new ≡ owed → owed ≡ after → says old new → says before after
  by_caller begun ended owes said = subst (says before) owes (subst (says before) ended (subst (λ p. says p new) begun said))
