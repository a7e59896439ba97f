-- The names that these proofs cite, passed on from one place. Declares nothing.
pub use Rattle.kanal_core.specs.Calls.{Enters, MovesTo, OldestLeft, TakesFirst, TakesFront, Withdraws}
pub use Rattle.kanal_core.specs.Channel.{ChannelView, after_drain, demand_of, ended_by, entry_of, line_of, receiver_dropped, sender_dropped, settlement, settlements, taken_by}
pub use Rattle.kanal_core.specs.Line.{IsWithin, Line, LineEntry, bare, buffered, found, has, has_place, holds_ticket, is_below, messages, tickets, under, waiting}
pub use Rattle.kanal_core.specs.Links.{AreApart, IsFree, IsHeld, IsLinked, IsOneOut, TakesMessageAt, end_after, first_place, front_with, has_ticket, last_place, link_after, link_before, put_w, slot_for, walk, with_waiter}
pub use Rattle.kanal_core.specs.Moves.{Moved, drain, drop_receiver, drop_sender, end_all, ended_entry, enter, leave, none_settled, seal, seated, serve, taken, wait_recv, wait_send}
pub use Rattle.kanal_core.specs.Sided.{AllReceive, AllSend, IsOneSided, Rises}
pub use Rattle.kanal_core.specs.Waiters.{IsFirstWhere, IsPlaced, behind, brought, emptied, receiver_first, same_ticket, sender_first, waiter_of, with_w, without}
pub use Rattle.kanal_core.specs.declared.internal.outcome.Outcome.{Outcome}
pub use Rattle.kanal_core.specs.declared.internal.outcome.Outcome.TheVariants.{Ended, Given, Taken}
pub use Rattle.kanal_core.specs.declared.internal.outcome.Reason.{Reason}
pub use Rattle.kanal_core.specs.declared.internal.outcome.Reason.TheVariants.{Closed, ReceiveClosed, SendClosed}
pub use Rattle.kanal_core.specs.declared.internal.outcome.Ticket.{Ticket}
pub use Rattle.kanal_core.specs.declared.internal.outcome.Waiter.{Waiter}
pub use Rattle.kanal_core.specs.declared.internal.slots.Slot.{Slot}
pub use Rattle.slab.specs.Slab.{Slab, Updates, get, slab_len, with_value}
pub use Rattle.std.proofs.Common.{Bool, IfNone, IfSome, IsSome, List, MatchOption, None, Option, Some, [], ap, append-nil, append_assoc, arith, cond, drop, eqb, false, filter, inl, inr, length, length-append, map, not, refl, rules, subst, suc, sym, take, true, vec_capacity, vec_len, zero, ℕ, ◌&&◌, ◌++◌, ◌+◌, ◌-◌, ◌<◌, ◌==◌, ◌∙◌, ◌∷◌, ◌≡◌, ◌≢◌, ◌≤◌, ◌⊎◌}
pub use Rattle.std.proofs.Math.ListN.{length-map}
pub use Rattle.std.proofs.lemmas.Bool.{cases_Bool, cases_eq, eq-eqb, eqb-true, false≢true, ltb-true, ne_eqb}
pub use Rattle.std.proofs.lemmas.Bool.Decides.{nat_tests}
pub use Rattle.std.proofs.lemmas.List.{take-append-drop, take_all, take_at}
pub use Rattle.std.proofs.lemmas.List.Elements.{filter_map-append}
pub use Rattle.std.specs.Fn.{FnReturnsAt}
pub use Rattle.std.specs.List.{cons_option, filter_map}
pub use Rattle.std.specs.Option.{option_map}
pub use mathlib.Core.List.{map-append}
