use Rattle.std.proofs.Common.{◌≡◌, ◌∙◌, subst, sym}
use Rattle.std.proofs.lemmas.Iterator.Consumers.{YieldsList-end}
use Rattle.std.proofs.lemmas.Iterator.Adapters.{YieldsList-from_vec}
use mathlib.Core.List.{map-id}
use Rattle.kanal_pool.specs.Answers.{AreInPlace}
use Rattle.kanal_pool.proofs.InPlace.{all_filled}
use Rattle.kanal_pool.proofs.places.all_answers.Goals as goal

pub returns-clause-answers : goal.returns-clause-answers
returns-clause-answers g c =
    let h = c.into_iter-place-iterator.ensures.into_iter_gives in
    let whole : c.loop-place.yielded ≡ c.args.places.items = sym (map-id _) ∙ (YieldsList-end (YieldsList-from_vec c.args.places.items h.0 (h.1 ∙ c.args.places.ok.0)) c.loop-place.yielded c.loop-place.place-iterator c.loop-place.yielded_by c.next.result c.next.new.self c.in-None.is c.next.ensures.steps).0 in
    all_filled g.J.Job.value c.args.jobs.now c.loop-place.found.items (subst (AreInPlace g.J.Job.value c.args.jobs.now) (sym (c.loop-place.invariant ∙ whole)) c.requires)
