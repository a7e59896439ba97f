use Rattle.std.proofs.Common.{subst}
use Rattle.kanal_channel.specs.Answers.{Answers}
use Rattle.kanal_futures.proofs.plain.PlainFuture.store_pass.Goals as goal

pub returns-clause-made : goal.returns-clause-made
returns-clause-made g c =
    let a = g.A.Operation in
    let parts = c.apart-pass in
    subst (λ new. Answers g.H.History.relations (a.event c.args.answered.1) a.read a.ended c.args.answered.0 new parts.result.1) parts.ensures.pass parts.ensures.made
