-- The names that these proofs cite, passed on from one place. Declares nothing.
pub use Rattle.kanal_core.proofs.Within.{under-nothing}
pub use Rattle.kanal_core.proofs.Common.{ChannelView, line_of, IsWithin, Line, LineEntry, bare, buffered, found, has, has_place, holds_ticket, is_below, messages, tickets, under, waiting, Moved, drain, end_all, ended_entry, enter, leave, seal, seated, serve, taken, wait_recv, wait_send, Bool, List, None, Option, Some, [], ap, append-nil, append_assoc, arith, cond, drop, eqb, false, filter, inl, inr, length, length-append, map, not, refl, rules, subst, suc, sym, take, true, vec_capacity, vec_len, zero, ℕ, ◌&&◌, ◌++◌, ◌+◌, ◌-◌, ◌<◌, ◌==◌, ◌∙◌, ◌∷◌, ◌≡◌, ◌≢◌, ◌≤◌, ◌⊎◌, cases_Bool, eq-eqb, eqb-true, false≢true, ltb-true, ne_eqb, nat_tests, take-append-drop, take_all, take_at, filter_map-append, cons_option, filter_map, option_map, map-append}
pub use Rattle.kanal_core.specs.Line.{is_at, is_empty, is_ticket, over}
pub use Rattle.kanal_events.proofs.Common.{last_word, cleared, close, without_demand, without_entry, StepSpec, Tells, is_no_memory, message_of, moving, nothing_there, only, refused, step, take_front, wait, slice_get, eqb-false}
pub use Rattle.kanal_core.specs.Moves.{ended}
pub use Rattle.kanal_core.specs.declared.internal.outcome.Outcome.{Outcome}
pub use Rattle.kanal_core.specs.declared.internal.outcome.Outcome.TheVariants.{Ended, Given, Taken}
pub use Rattle.kanal_core.specs.declared.internal.outcome.Reason.{Reason}
pub use Rattle.kanal_core.specs.declared.internal.outcome.Reason.TheVariants.{Closed, ReceiveClosed, SendClosed}
pub use Rattle.kanal_core.specs.declared.internal.outcome.Ticket.{Ticket}
pub use Rattle.kanal_events.proofs.StepCases.{Blocking, BlockingRecv, ClonedTx, Closes, CountCase, Drains, EndsAll, Enters, Full, LastCase, LastRx, LastTx, LateRecv, Recounts, RecvCase, RecvWaits, Refuses, Replies, ReplyCase, Seals, SendCase, SendWaits, StepCase, TakesFront, Trying, TryingRecv, WithdrawsDemand, WithdrawsEntry, count-zero, enter-rest, step_case, step_found}
pub use Rattle.kanal_events.specs.Given.{AreKept, Gives, GivesNone, GivesOne}
pub use Rattle.kanal_events.specs.StepResult.{cleared_of, drained_of, not_waiting, reply_of, settled_of, told_of, withdrawn}
pub use Rattle.kanal_events.specs.Steps.{IsWait, is_done, no_memory, take as take_told}
pub use Rattle.kanal_events.specs.declared.event.Event.{Event}
pub use Rattle.kanal_events.specs.declared.event.Event.TheVariants.{Ask as Asks, CloneRx, CloneTx, Close, Drain, DropRx, DropTx, Recv, RecvLate, Seal, Send, Terminated, TryRecv, TrySend, Withdraw}
pub use Rattle.kanal_events.specs.declared.event.Refusal.{Refusal}
pub use Rattle.kanal_events.specs.declared.event.Refusal.TheVariants.{CloseError, NoHandle, NoMemory, NotWaiting, Timeout}
pub use Rattle.kanal_events.specs.declared.event.Reply.{Reply}
pub use Rattle.kanal_events.specs.declared.event.Reply.TheVariants.{Cleared, Done, Drained, Flag, Got, No, Nothing, Number, Refused, Sent, Waits, Withdrawn, Yes}
pub use Rattle.kanal_events.specs.declared.event.Side.TheVariants.{Rx, Tx}
pub use Rattle.kanal_journal.specs.Given.{AreGiven, AreNumbered, waiting_count}
pub use Rattle.kanal_journal.specs.Laws.{AreOver, AreRising, StaysOver, WaitByPlace, is_receive, settled_at, settled_times, tells_end, tells_end_or_no_handle, told_history, withdrawn_times, without_ticket}
pub use Rattle.kanal_journal.specs.Paired.{ArePaired, AtOnce, Demand, Later, Next, Paired, PairedHistory, along, asked, cleared_by, demand_stays, demands, gift, given, history, is_ended, is_gone, kept, receipts, receipts_from, rest, send_stays, sent, until, withdrawn_ticket, without_last}
pub use Rattle.kanal_journal.specs.Replays.{Recording, Records, Replays, events_of, longer, next_account, outcome_of, played, recorded_history, replies_of}
pub use Rattle.kanal_journal.specs.Running.{HasRoom, IsOpened, IsSame, IsWithinEvents, RunningStep, account_of}
pub use Rattle.kanal_journal.specs.Runs.{Account, AccountStep, Leads, Runs, TellsWith, account, added, handles_after, has_handle, has_side, made, numbered, opening_account, opening_line}
pub use Rattle.kanal_journal.specs.Weights.{event_weight, outcome_weight, reply_weight, report_weight, settlement_weight, weigh}
pub use Rattle.kanal_journal.specs.declared.journal.handles.Handles.{Handles}
pub use Rattle.kanal_journal.specs.declared.journal.report.Settlement.{Settlement}
pub use Rattle.kanal_journal.specs.declared.journal.running.Running.{Running}
pub use Rattle.std.proofs.Common.{add-one, get_or, ltb, replicate, ◌||◌}
pub use Rattle.std.proofs.Math.ListN.{length-take}
pub use Rattle.std.proofs.lemmas.Bool.{cases_lt, le-ltb, lt-ltb, or_cases}
pub use Rattle.std.proofs.lemmas.List.{length-map, take-map, take-take}
pub use Rattle.std.proofs.lemmas.List.Elements.{filter-append}
pub use Rattle.std.proofs.lemmas.List.Folds.{list_any-append}
pub use Rattle.std.proofs.lemmas.List.Sums.{sum_by-append}
pub use Rattle.std.specs.List.{list_any, sum_by}
pub use Rattle.std.specs.Option.{is_some, option_or}
pub use mathlib.Core.List.{map-id}
