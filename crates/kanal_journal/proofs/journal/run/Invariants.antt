use Rattle.kanal_journal.proofs.Common.{◌≡◌, length, vec_len, vec_capacity, Leads, opening_account, IsWithinEvents, HasRoom, account_of}
use Rattle.kanal_journal.proofs.journal.run.Given as goal

-- the events so far lead to what was told so far, and there is room for what may still come
abbrev pub invariant-loop-event : goal.invariant-loop-event
invariant-loop-event g l =
    record {
      leads : Leads (opening_account l.fn.capacity) l.yielded (account_of l.replies.items l.running);
      within : IsWithinEvents (length l.yielded) l.running;
      count : vec_len l.replies ≡ length l.yielded;
      room : HasRoom l.steps l.running;
      replies : vec_capacity l.replies ≡ vec_capacity l.initial.replies;
    }
