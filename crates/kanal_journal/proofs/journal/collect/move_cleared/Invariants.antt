use Rattle.std.proofs.Common.{◌≡◌, ◌≤◌, ◌+◌, ◌++◌, length, vec_len, vec_capacity}
use Rattle.kanal_journal.proofs.journal.collect.move_cleared.Given as goal

-- what was moved and what is left are all, and there is room for what is left
abbrev pub invariant-loop-message : goal.invariant-loop-message
invariant-loop-message g l =
    record {
      items : l.into.items ++ l.messages ≡ l.initial.into.items ++ l.initial.messages;
      room : vec_len l.into + length l.messages ≤ vec_capacity l.into;
      capacity : vec_capacity l.into ≡ vec_capacity l.initial.into;
    }

abbrev pub decreases-loop-message : goal.decreases-loop-message
decreases-loop-message g l = length l.messages
