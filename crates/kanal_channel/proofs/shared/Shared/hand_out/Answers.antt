use Rattle.kanal_channel.proofs.Common.{◌∙◌, subst, settled_of, HaveShown, shown_again}
use Rattle.kanal_channel.proofs.shared.Shared.hand_out.Goals as goal

pub loop-owed-preserved : goal.loop-owed-preserved
loop-owed-preserved g c =
    let shows = g.H.History.shows in
    let both = subst (HaveShown shows c.loop-owed.prefix) c.in-Some.ensures.next c.loop-owed.invariant.seen in
    record {
      seen = shown_again shows c.loop-owed.prefix c.again.new.prefix c.again.ensures.same (settled_of c.next.new.self) both.1;
      reply = c.next.ensures.reply ∙ c.loop-owed.invariant.reply;
    }
