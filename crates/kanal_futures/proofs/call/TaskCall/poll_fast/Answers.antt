use Rattle.std.proofs.Common.{subst, sym}
use Rattle.kanal_channel.specs.Answers.{Answers}
use Rattle.kanal_channel.proofs.Answering.{answered_replied}
use Rattle.kanal_futures.proofs.call.TaskCall.poll_fast.Goals as goal

pub new-requires : goal.new-requires
new-requires g c =
    let w = g.H.History.relations in
    let a = g.A.Operation in
    let pass = c.make_fast.new.pass in
    let answer = c.by.result in
    let opening = c.of-opening in
    let made = answered_replied w (a.event c.in-Some.asked) a.read a.ended c.in-Some.pass pass c.in-Ok.reply answer c.in-Ok.ensures.made c.by.ensures in
    let here = subst (λ begun. Answers w (a.event c.in-Some.asked) a.read a.ended begun pass answer) (sym opening.ensures.pass) made in
    record { made = subst (λ asked. Answers w (a.event asked) a.read a.ended opening.result.pass.value pass answer) (sym opening.ensures.asked) here }
