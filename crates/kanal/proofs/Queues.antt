-- A queue that has nothing at its front has nothing at all.
use Rattle.std.proofs.Common.{◌≡◌, ◌<◌, List, [], ◌∷◌, Option, Some, None, arith, length, refl}
use Rattle.kanal_core.proofs.Common.{false≢true}
use Rattle.std.specs.Option.{IsSome}
use Rattle.std.specs.Prelude.{◌↔◌}
use Rattle.std.specs.declared.collections.VecDeque.{VecDeque}

none_there : {T : Type 0} (xs : List T) → (0 < length xs → ⊥) → xs ≡ []
none_there [] none = refl
none_there (x ∷ xs) none = absurd (none (omega arith))

pub none_first : {T A : Type 0} (first : Option T) (queue : VecDeque T A) → (IsSome first ↔ (0 < queue.len)) → first ≡ None → queue.items ≡ []
none_first None queue some none = none_there queue.items (λ more. false≢true (some.1 (omega (arith, more, queue.ok.0))))
none_first (Some x) queue some none = absurd (cc)
