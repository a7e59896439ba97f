use Rattle.std.proofs.Common.{rules, add-one}
use Rattle.kanal_pool.proofs.InPlace.{one_more_place}
use Rattle.kanal_pool.proofs.places.empty_places.Goals as goal

-- src/places.rt:34:5
pub loop-preserved : goal.loop-preserved
loop-preserved g c =
    let more = one_more_place g.J.Job.value c.args.jobs.now c.loop.places.items c.loop.index c.loop-test.true c.loop.invariant in
    let next = add-one c.loop.index in
    search rules
