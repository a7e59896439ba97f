use Rattle.kanal_cell.proofs.Common.{rules, ◌∷◌, Some, sym, ap, ◌∙◌, rest, turned}
use Rattle.kanal_cell.specs.declared.signal.rule.Held.TheVariants.{Outcome}
use Rattle.kanal_cell.proofs.CellWord.{set_of}
use Rattle.kanal_cell.proofs.CellKeeps.{settles, took_outcome, back_plain, back_turned}
use Rattle.kanal_cell.proofs.signal.SettleEnd.end.Goals as goal
use Rattle.kanal_cell.proofs.signal.SettleEnd.end.Goals.{then-found-ne0, else-found-ne0}

pub fetch_or-found-requires : goal.fetch_or-found-requires
fetch_or-found-requires g c = (search rules, search rules, settles _ _ _ (Outcome c.args.outcome) tt (search rules) (search rules) (search rules))

pub take_sleeper-sleeper-requires : goal.take_sleeper-sleeper-requires
take_sleeper-sleeper-requires g c = let p = c.fetch_or-found.ensures.2 in record { table = search rules; full = took_outcome _ _ _ _ _ (set_of p.0 _ p.1 c.if-found-ne0.true) p.3 }

pub take_outcome-requires : goal.take_outcome-requires
take_outcome-requires g c = let p = c.fetch_or-found.ensures.2 in let m = ap (λ y. y.1) c.put_outcome.ensures.put in record {
  table = search rules;
  full = (
    Outcome c.args.outcome,
    tt,
    elim c.if-found-ne0.branch [
      | then-found-ne0 w ↦ let a = ap (λ y. y.1.1.0.me.1) w.self-is in
          let t = back_turned (Outcome c.args.outcome) p.0 _ _ _ _ _ p.1 c.if-found-ne0-2.true w.if-found-ne0.true m p.3 (ap (λ y. y.1) w.turn.ensures.2 ∙ ap turned (ap (λ y. y.1) w.take_sleeper-sleeper.ensures.took)) in
          a ∙ t ∙ ap (λ y. (0, Some (Outcome c.args.outcome)) ∷ rest y) (sym a)
      | else-found-ne0 w ↦ let a = ap (λ y. y.1.1.0.me.1) w.self-is in
          let t = back_plain (Outcome c.args.outcome) p.0 _ _ _ _ p.1 c.if-found-ne0-2.true w.if-found-ne0.false m p.3 in
          a ∙ t ∙ ap (λ y. (0, Some (Outcome c.args.outcome)) ∷ rest y) (sym a)
    ],
  );
}
