-- What the second comer holds right after its step.
use Rattle.kanal_cell.proofs.Common.{◌≡◌, ℕ, Bool, true, false, not, ◌&&◌, cond, ◌⊎◌, inl, inr, List, [], ◌∷◌, sym, ap, ◌∙◌, subst, Some, rest, CellView, Held, CellSlot, IsOutcome, IsSleeper, TookIf}
use Rattle.kanal_cell.specs.CellRunningLaw.{SecondHolds}
use Rattle.kanal_cell.proofs.CellBools.{both, bool_case, false_not}
use Rattle.kanal_cell.proofs.CellKeeps.{took_outcome}

module _ {P : Type 0} where
  below_sleeper : (x : Held P) (s l : Bool) (m n : List (ℕ × CellSlot P)) → l ≡ true → m ≡ (0, Some x) ∷ [] → TookIf s 1 IsSleeper (cond l m (rest m)) n
      → (n ≡ (0, Some x) ∷ []) ⊎ ((y : Held P) × (n ≡ (1, Some y) ∷ (0, Some x) ∷ []))
  below_sleeper x s l m n left put t = let kept : TookIf s 1 IsSleeper m n = subst (λ b. TookIf s 1 IsSleeper (cond b m (rest m)) n) left t in bool_case s
      (λ e. let took : TookIf true 1 IsSleeper m n = subst (λ b. TookIf b 1 IsSleeper m n) e kept in inr (took.0, took.2 ∙ ap (λ (c : List (ℕ × CellSlot P)). (1, Some took.0) ∷ c) put))
      (λ e. let same : TookIf false 1 IsSleeper m n = subst (λ b. TookIf b 1 IsSleeper m n) e kept in inl (same ∙ put))

  pub second_holds : SecondHolds P
  second_holds = record {
    settle_sleeper = λ st m r n p e. took_outcome 1 IsSleeper p.0.sleeping (cond p.0.left m.1 (rest m.1)) n.1 (sym (ap (λ (v : CellView). v.found.sleeping) p.2) ∙ e) p.3;
    outcome_of = λ st m r n x p e put. below_sleeper x p.0.sleeping p.0.left m.1 n.1 (sym (ap (λ (v : CellView). v.found.left) p.2) ∙ e) put p.3;
    sleep_outcome = λ st m r n p e. took_outcome 0 IsOutcome p.0.ended (cond p.0.ended m.1 (rest m.1)) n.1 (sym (ap (λ (v : CellView). v.found.ended) p.2) ∙ e) p.3;
    leave_outcome = λ st m r n p e h. took_outcome 0 IsOutcome (p.0.ended && not m.0.had) m.1 n.1 (both p.0.ended (not m.0.had) (sym (ap (λ (v : CellView). v.found.ended) p.2) ∙ e) (false_not m.0.had h)) p.3;
  }
