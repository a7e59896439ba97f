use Rattle.std.proofs.Common.{◌∙◌, ◌<◌, ℕ, ap, not, arith, refl, subst, sym}
use Rattle.std.proofs.lemmas.Grind.{common_steps}
use Rattle.std.proofs.lemmas.Option.{gets}
use Rattle.kanal_pool.proofs.InPlace.{empty_place, filled_place}
use Rattle.kanal_pool.proofs.places.put.Goals as goal

pub returns-then-is_none : goal.returns-then-is_none
returns-then-is_none g c =
    let one_value = g.met.J.Job.equal_values c.in-Some.own.now c.args.answered.job.now (sym c.eq.ensures ∙ c.if-eq.true) in
    let empty = empty_place c.args.places.now.items c.args.answered.number c.index.result.now (subst (λ (n : ℕ). c.args.answered.number < n) (c.len.ensures ∙ c.args.places.now.ok.0) c.if-number-len.true) c.index.ensures (c.is_none.ensures ∙ ap not c.if-is_none.true) in
    record {
      in_place = filled_place g.J.Job.value c.args.jobs.now c.args.places.now.items c.args.answered.number c.in-Some.own.now c.args.answered.answer c.requires (grind (arith, common_steps, gets)) (c.args.answered.is_value ∙ sym one_value);
      filled = (empty, refl);
      refused = tt;
    }
