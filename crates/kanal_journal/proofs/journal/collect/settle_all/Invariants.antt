use Rattle.kanal_journal.proofs.Common.{◌≡◌, ◌≤◌, ◌+◌, ◌++◌, length, vec_len, vec_capacity, cleared_of, reply_of, settled_of, numbered}
use Rattle.kanal_journal.proofs.journal.collect.settle_all.Given as goal

-- what was settled and what is left are all, and there is room for what is left
abbrev pub invariant-loop-owed : goal.invariant-loop-owed
invariant-loop-owed g l =
    record {
      items : l.into.items ++ numbered l.step (settled_of l.made) ≡ l.initial.into.items ++ numbered l.step (settled_of l.initial.made);
      room : vec_len l.into + length (settled_of l.made) ≤ vec_capacity l.into;
      capacity : vec_capacity l.into ≡ vec_capacity l.initial.into;
      reply : reply_of l.made ≡ reply_of l.initial.made;
      cleared : cleared_of l.made ≡ cleared_of l.initial.made;
    }

abbrev pub decreases-loop-owed : goal.decreases-loop-owed
decreases-loop-owed g l = length (settled_of l.made)
