-- The names that these proofs cite, passed on from one place. Declares nothing.
pub use Rattle.kanal_core.proofs.Common.{MovesTo, OldestLeft, ChannelView, after_drain, ended_by, line_of, receiver_dropped, sender_dropped, settlement, taken_by, Line, LineEntry, bare, found, has, has_place, messages, Moved, drain, drop_receiver, drop_sender, end_all, enter, leave, seal, serve, wait_recv, wait_send, receiver_first, same_ticket, sender_first, without, Bool, List, None, Option, Some, [], ap, arith, cond, drop, eqb, false, inl, inr, length, map, refl, subst, suc, sym, true, zero, ℕ, ◌&&◌, ◌++◌, ◌+◌, ◌-◌, ◌==◌, ◌∙◌, ◌∷◌, ◌≡◌, ◌≢◌, cases_Bool, eqb-true}
pub use Rattle.kanal_core.specs.Calls.{WaitsLast}
pub use Rattle.kanal_core.specs.Channel.{closed, sealed}
pub use Rattle.kanal_core.specs.Line.{last_word}
pub use Rattle.kanal_core.specs.Moves.{cleared, close, last_count, raised, without_demand, without_entry}
pub use Rattle.kanal_core.specs.declared.internal.outcome.Reason.{Reason}
pub use Rattle.kanal_core.specs.declared.internal.outcome.Waiter.{Waiter}
pub use Rattle.kanal_events.specs.Steps.{StepSpec, Tells, answer, cloned, is_no_memory, message_of, moving, nothing_there, offer, only, refused, seal_line, shut, step, take, take_front, take_line, wait, withdraw}
pub use Rattle.kanal_events.specs.declared.event.Event.{Event}
pub use Rattle.kanal_events.specs.declared.event.Event.TheVariants.{Ask as Asks, CloneRx, CloneTx, Close, Drain, DropRx, DropTx, Recv, RecvLate, Seal, Send, Terminated, TryRecv, TrySend, Withdraw}
pub use Rattle.kanal_events.specs.declared.event.Reply.TheVariants.{Cleared, Done, Drained, Flag, Got, No, Nothing, Number, Refused, Sent, Waits, Withdrawn, Yes}
pub use Rattle.std.proofs.Common.{slice_get}
pub use Rattle.std.proofs.lemmas.Bool.{eqb-false}
