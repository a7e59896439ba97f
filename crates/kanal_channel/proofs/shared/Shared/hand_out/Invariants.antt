use Rattle.kanal_channel.proofs.Common.{◌≡◌, length, reply_of, settled_of, HaveShown}
use Rattle.kanal_channel.proofs.shared.Shared.hand_out.Given as goal

-- what was seen shows what is left
abbrev pub invariant-loop-owed : goal.invariant-loop-owed
invariant-loop-owed g l =
    record {
      seen : HaveShown g.H.History.shows l.prefix (settled_of l.made);
      reply : reply_of l.made ≡ reply_of l.initial.made;
    }

abbrev pub decreases-loop-owed : goal.decreases-loop-owed
decreases-loop-owed g l = length (settled_of l.made)
