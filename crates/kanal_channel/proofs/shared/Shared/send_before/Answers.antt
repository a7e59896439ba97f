use Rattle.kanal_channel.proofs.Common.{◌<◌, ◌^◌, refl, inl, subst, Send, send_in_time, FinishesBy}
use Rattle.kanal_cell.specs.Deadlines.{DeadlineReached as IsLate}
use Rattle.kanal_channel.proofs.Ending.{finishes_by, gives_back}
use Rattle.kanal_channel.proofs.shared.Shared.send_before.Goals as goal

-- the deadline is so long after the moment that the clock answered at first
pub returns-clause-sent : goal.returns-clause-sent
returns-clause-sent g c =
    let w = g.H.History.relations in
    let answered = g.C.Clock.answers c.args.clock.now in
    let old = c.args.pass.now in
    let new = c.make_until.new.pass in
    let event = Send c.args.message in
    let result = c.sent_in_time.result in
    let finishes = finishes_by w answered c.in-Some.deadline old new event send_in_time c.make_until.result result c.make_until.ensures.come refl c.sent_in_time.ensures.answer in
    let sum = c.in-Some.ensures.sum in (
      c.now-moment.result,
      c.now-moment.ensures.answered,
      inl (subst (λ n. n < 2 ^ 64) sum.0 sum.1, subst (λ n. FinishesBy w answered n old new event send_in_time result) sum.0 finishes),
    )

pub returns-clause-back : goal.returns-clause-back
returns-clause-back g c made =
    gives_back g.H.History.relations (IsLate (g.C.Clock.answers c.args.clock.now) c.in-Some.deadline) c.args.pass.now c.make_until.new.pass (Send c.args.message) c.make_until.result c.sent_in_time.new.option c.make_until.ensures.come c.sent_in_time.ensures.back
