-- The names that these proofs cite, passed on from one place. Declares nothing.
pub use Rattle.kanal_core.proofs.Common.{ChannelView, demand_of, entry_of, line_of, settlement, Line, bare, same_ticket, waiter_of, with_w, without, MatchOption, map, ◌-◌, ◌==◌, cases_Bool, false≢true, option_map}
pub use Rattle.kanal_events.proofs.Common.{last_word, last_count, StepSpec, Tells, cloned, is_no_memory, refused, step}
pub use Rattle.kanal_core.specs.Moves.{add_receiver, add_sender}
pub use Rattle.kanal_core.specs.declared.error.ReceiveError.{ReceiveError}
pub use Rattle.kanal_core.specs.declared.error.SendError.{SendError}
pub use Rattle.kanal_core.specs.declared.internal.outcome.Outcome.{Outcome}
pub use Rattle.kanal_core.specs.declared.internal.outcome.Reason.TheVariants.{ReceiveClosed, SendClosed}
pub use Rattle.kanal_core.specs.declared.internal.outcome.Ticket.{Ticket}
pub use Rattle.kanal_core.specs.declared.internal.outcome.Waiter.{Waiter}
pub use Rattle.kanal_events.specs.StepResult.{Keeps, MustWait, reply_of, settled_of, settled_of_left, told_of, withdrawn}
pub use Rattle.kanal_events.specs.Steps.{IsWait, is_closed, no_memory}
pub use Rattle.kanal_events.specs.declared.event.Event.{Event}
pub use Rattle.kanal_events.specs.declared.event.Event.TheVariants.{Drain, DropRx, DropTx, Recv, RecvLate, Send, TryRecv, TrySend, Withdraw}
pub use Rattle.kanal_events.specs.declared.event.Refusal.TheVariants.{TooMany}
pub use Rattle.kanal_events.specs.declared.event.Reply.{Reply}
pub use Rattle.kanal_events.specs.declared.event.Reply.TheVariants.{Got, No, Nothing, Sent, Waits, Yes}
pub use Rattle.kanal_events.specs.declared.event.Side.{Side}
pub use Rattle.kanal_events.specs.declared.event.Side.TheVariants.{Rx, Tx}
pub use Rattle.kanal_events.specs.declared.step_result.StepResult.{StepResult}
pub use Rattle.kanal_state.specs.Calls.{IsDrop, IsIn, IsTold, IsToldOn, MovesNoMessage, call_of, line_by}
pub use Rattle.kanal_state.specs.Counts.{count_of, one_less, one_more, ticket_of}
pub use Rattle.kanal_state.specs.Entries.{MayLack, call_from, replied}
pub use Rattle.kanal_state.specs.Handles.{Receives, ReceivesInTime, Sends, SendsInTime, TriesToReceive, TriesToSend}
pub use Rattle.kanal_state.specs.HistoryRelations.{AreSound, HaveSettled, HaveShown, HistoryRelations}
pub use Rattle.kanal_state.specs.Makes.{AppendPost, Comes, Finishes, HasReplied, HasWaited, IsAnswered, IsReplied, Lacks, StepAppendPost}
pub use Rattle.kanal_state.specs.Renewing.{Brought, Renews, Swaps, TakesNode}
pub use Rattle.kanal_state.specs.Results.{asked_by, counted_by, entered_by, received_after, received_by, sent_after, sent_by, timed_received_after, timed_received_by, timed_sent_after, timed_sent_by}
pub use Rattle.kanal_state.specs.WaiterHandles.{HasLeft, HaveLeft, left_of}
pub use Rattle.kanal_state.specs.declared.call.Call.{Call}
pub use Rattle.kanal_cell.proofs.Common.{Bool, List, None, Option, Some, [], ap, arith, cond, false, inl, inr, length, refl, subst, sym, true, true≢false, ℕ, ◌++◌, ◌∙◌, ◌∷◌, ◌≡◌, ◌≢◌, ◌≤◌}
pub use Rattle.std.proofs.Common.{Err, IfErr, Ok, Result}
pub use Rattle.std.specs.Option.{option_copied_mut, option_to_list}
