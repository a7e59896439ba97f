use Rattle.std.proofs.Common.{subst, sym}
use Rattle.kanal_channel.specs.Answers.{Answers}
use Rattle.kanal_channel.proofs.Answering.{answered_replied}
use Rattle.kanal_futures.proofs.call.TaskCall.begin_held.Goals as goal

pub new-requires : goal.new-requires
new-requires g c =
    let w = g.H.History.relations in
    let a = g.A.Operation in
    let answer = c.by.result in
    let made = answered_replied w (a.event c.args.asked) a.read a.ended c.args.pass c.in-Ok.pass c.in-Ok.reply answer c.in-Ok.ensures.replied c.by.ensures in
    record { made = subst (λ v. Answers w (a.event v.1) a.read a.ended v.0 c.in-Ok.pass answer) (sym c.in-Ok.ensures.begun) made }
