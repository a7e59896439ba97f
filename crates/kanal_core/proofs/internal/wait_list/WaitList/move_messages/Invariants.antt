use Rattle.kanal_core.proofs.Common.{◌≡◌, ◌+◌, ◌-◌, ◌≤◌, ◌++◌, length, drop, vec_len, vec_capacity, first_place, brought}
use Rattle.kanal_core.proofs.Emptying.{emptied_to}
use Rattle.kanal_core.proofs.internal.wait_list.WaitList.move_messages.Given as goal

-- the walk is at the first that is left; those before it are emptied, and what was moved and what is left are all
abbrev pub invariant-loop : goal.invariant-loop
invariant-loop g l =
    record {
      at : l.at ≡ first_place (drop l.counter l.fn.self);
      left : l.self ≡ emptied_to l.counter l.fn.self;
      moved : l.into.items ++ brought (drop l.counter l.fn.self) ≡ l.fn.into.items ++ brought l.fn.self;
      room : vec_len l.into + (length l.fn.self - l.counter) ≤ vec_capacity l.into;
      capacity : vec_capacity l.into ≡ vec_capacity l.fn.into;
    }
