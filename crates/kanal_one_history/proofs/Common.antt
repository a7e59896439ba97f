-- The names that these proofs cite, passed on from one place. Declares nothing.
pub use Rattle.kanal_core.proofs.Common.{Line, LineEntry, bare, found, has, has_place, tickets, enter, leave, serve, wait_recv, wait_send, Bool, List, None, Option, Some, [], ap, append-nil, append_assoc, arith, cond, eqb, false, filter, inl, inr, length, length-append, map, not, refl, rules, subst, suc, sym, true, zero, ℕ, ◌&&◌, ◌++◌, ◌+◌, ◌-◌, ◌<◌, ◌==◌, ◌∙◌, ◌∷◌, ◌≡◌, ◌≤◌, ◌⊎◌, cases_Bool, eq-eqb, eqb-true, false≢true}
pub use Rattle.kanal_events.proofs.Common.{last_word, last_count, raised, StepSpec, answer, message_of, moving, nothing_there, offer, only, refused, seal_line, shut, step, take, take_front, take_line, wait, withdraw}
pub use Rattle.kanal_state.proofs.Common.{add_receiver, add_sender, is_closed, IsIn, IsTold, IsToldOn, MovesNoMessage, call_of, line_by}
pub use Rattle.kanal_core.specs.declared.internal.outcome.Outcome.{Outcome}
pub use Rattle.kanal_journal.proofs.Common.{Blocking, BlockingRecv, ClonedTx, Closes, CountCase, Drains, EndsAll, Enters, Full, LastCase, LastRx, LastTx, LateRecv, Recounts, RecvCase, RecvWaits, Refuses, Replies, ReplyCase, Seals, SendCase, SendWaits, StepCase, TakesFront, Trying, TryingRecv, WithdrawsDemand, WithdrawsEntry, enter-rest, step_case, AreOver, AreRising, StaysOver, is_receive, settled_times, tells_end, tells_end_or_no_handle, told_history, withdrawn_times, AtOnce, Demand, Later, Next, Paired, PairedHistory, along, asked, cleared_by, demand_stays, demands, given, is_ended, is_gone, kept, receipts_from, send_stays, sent, withdrawn_ticket, without_last, Account, Leads, handles_after, has_handle, has_side, made, numbered, opening_account, opening_line, ◌||◌, cases_lt, list_any, sum_by}
pub use Rattle.kanal_events.proofs.StepCases.{ClonedRx, DroppedRx, DroppedTx}
pub use Rattle.kanal_events.specs.declared.event.Event.{Event}
pub use Rattle.kanal_events.specs.declared.event.Event.TheVariants.{Ask as Asks, CloneRx, CloneTx, Close, Drain, DropRx, DropTx, Recv, RecvLate, Seal, Send, Terminated, TryRecv, TrySend, Withdraw}
pub use Rattle.kanal_events.specs.declared.event.Refusal.TheVariants.{CloseError, Closed, NoHandle, ReceiveClosed as NoReceiver, Sealed, Timeout, TooMany}
pub use Rattle.kanal_events.specs.declared.event.Reply.{Reply}
pub use Rattle.kanal_events.specs.declared.event.Reply.TheVariants.{Done, Got, No, Nothing, Refused, Sent, Waits, Withdrawn, Yes}
pub use Rattle.kanal_events.specs.declared.event.Side.TheVariants.{Rx, Tx}
pub use Rattle.kanal_journal.proofs.Holding.{Holds, holds_paired, waits}
pub use Rattle.kanal_journal.proofs.Lawful.{ends-once, holds-after}
pub use Rattle.kanal_journal.proofs.Reading.{IsPlain, refused-handles, refused-plain, reply-plain, send-read}
pub use Rattle.kanal_journal.specs.Paired.{gift_of, history_from}
pub use Rattle.kanal_journal.specs.declared.journal.handles.Handles.{Handles}
pub use Rattle.kanal_journal.specs.declared.journal.report.Settlement.{Settlement}
pub use Rattle.kanal_log.proofs.Shares.{both-has, both-nothing}
pub use Rattle.kanal_log.proofs.Common.{HasShare, both, AreDisjoint}
pub use Rattle.kanal_log.specs.Views.{Known, OwnsAllBut, known}
pub use Rattle.kanal_one_history.specs.Accounts.{LeadsAsTold, account_after, all_cleared, replies_by, reply_by}
pub use Rattle.kanal_one_history.specs.Calls.{AreTold, HasSettled, IsLegal, after, history_of, line_after, with_call, with_calls}
pub use Rattle.kanal_one_history.specs.Puts.{AreGot, ArePut, EachEndsOnce, Exchanges, ExchangesNothing, HasBegunToWait, SettlesOrWithdraws, WaitsAsSettled, WaitsComeFirst}
pub use Rattle.kanal_state.specs.declared.call.Call.{Call}
pub use Rattle.std.proofs.lemmas.Bool.{or_left, or_right}
