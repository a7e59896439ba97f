-- The names that these proofs cite, passed on from one place. Declares nothing.
pub use Rattle.kanal_cell.specs.Deadlines.{DeadlineReached as IsLate}
pub use Rattle.kanal_core.proofs.Common.{Line, has_place, Bool, List, Option, None, Some, [], ap, false, inl, inr, length, refl, subst, sym, true, ℕ, ◌++◌, ◌<◌, ◌==◌, ◌∙◌, ◌≡◌, ◌≢◌, cases_Bool}
pub use Rattle.kanal_events.specs.StepResult.{drained_of, drained_of_left, made_of, reply_of_left}
pub use Rattle.kanal_state.proofs.Common.{reply_of, settled_of, no_memory, ReceivesInTime, TriesToSend, AreSound, HaveShown, HistoryRelations, HasReplied, IsAnswered, IsReplied, StepAppendPost, entered_by, Err, IfErr, Ok, Result, true≢false}
pub use Rattle.kanal_events.proofs.Common.{is_no_memory, step, take_line}
pub use Rattle.kanal_events.specs.declared.event.Event.{Event}
pub use Rattle.kanal_events.specs.declared.event.Event.TheVariants.{Drain, Recv, Send, TryRecv, TrySend}
pub use Rattle.kanal_events.specs.declared.event.Reply.{Reply}
pub use Rattle.kanal_events.specs.declared.event.Reply.TheVariants.{No, Refused, Waits, Yes}
pub use Rattle.kanal_state.proofs.Exchanging.{receives_in_time_got}
pub use Rattle.kanal_state.proofs.Settling.{all_shown, comes_replied, finishes_replied, has_waited, noted_answered, noted_replied, noted_settled, refused_replied, replied_on, shown_again, waiting_on}
pub use Rattle.kanal_state.specs.Handles.{Drains, ReceivesBy}
pub use Rattle.kanal_state.specs.Results.{InTime, back_by, drained_by, receive_in_time, send_in_time}
pub use Rattle.kanal_state.specs.Timed.{FinishesBy}
pub use Rattle.kanal_state.specs.declared.call.Call.{Call}
pub use Rattle.std.proofs.Common.{IfOk, ◌^◌}
