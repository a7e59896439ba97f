use Rattle.std.proofs.Common.{◌≡◌, ◌+◌, ◌≤◌, ◌++◌, length, vec_len, vec_capacity}
use Rattle.kanal_core.proofs.internal.buffer.Buffer.move_into.Given as goal

-- what was moved and what is left are all, and there is room for what is left
abbrev pub invariant-loop-message : goal.invariant-loop-message
invariant-loop-message g l =
    record {
      all : l.into.items ++ l.self.messages ≡ l.fn.into.items ++ l.fn.self.messages;
      len : vec_len l.into + length l.self.messages ≡ vec_len l.fn.into + length l.fn.self.messages;
      room : vec_len l.into + length l.self.messages ≤ vec_capacity l.into;
      capacity : vec_capacity l.into ≡ vec_capacity l.fn.into;
      limit : l.self.limit ≡ l.fn.self.limit;
    }

abbrev pub decreases-loop-message : goal.decreases-loop-message
decreases-loop-message g l = length l.self.messages
