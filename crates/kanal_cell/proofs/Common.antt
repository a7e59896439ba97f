-- The names that these proofs cite, passed on from one place. Declares nothing.
pub use Rattle.atomic_table.specs.Table.{Act, Allows, State, Step, Valid, carried_after, chain, gives, homes_after, keeps, rest, step, stepped, takes, turned}
pub use Rattle.kanal_cell.specs.CellHistory.{cell_reply_at, first, first_from, first_leave, first_settle, first_sleep, is_late, is_leave, is_settle, is_sleep, looks, outcome, owner_after, settle_outcome, taker, takes_at, told_at, told_there, word_after}
pub use Rattle.kanal_cell.specs.CellMoves.{cell, cell_after, cell_reply, cell_word, empty, is_home, owner_of}
pub use Rattle.kanal_cell.specs.CellRule.{Carries, CellSlot, FollowsRule, HasBothEnds, HasNotSettled, IsOutcome, IsSleeper, LiesIf, OutcomeLies, Recalls, Seated, TookIf, after_settle, after_sleep, agree, agreement, bits, cell_state, fresh, implies, is_asleep, is_within, no_bits, number, outcome_is_home, polled, quit, settled, settler_began, slept, stepped_to, waiter_began, word_bits}
pub use Rattle.kanal_cell.specs.CellSlots.{IsLentWith, IsNotLent, IsOut, LiesAtHome, SlotLaw}
pub use Rattle.kanal_cell.specs.declared.signal.rule.Bits.{Bits}
pub use Rattle.kanal_cell.specs.declared.signal.rule.CellView.{CellView}
pub use Rattle.kanal_cell.specs.declared.signal.rule.Held.{Held}
pub use Rattle.kanal_cell.specs.declared.signal.rule.Held.TheVariants.{Sleeper}
pub use Rattle.kanal_cell.specs.declared.signal.rule.Role.{Role}
pub use Rattle.kanal_cell.specs.declared.signal.rule.Role.TheVariants.{Maker, Settler, SettlerToBe, Waiter, WaiterToBe}
pub use Rattle.kanal_cell.specs.declared.signal.steps.CellCore.{CellCore}
pub use Rattle.kanal_cell.specs.declared.signal.steps.CellReply.{CellReply}
pub use Rattle.kanal_cell.specs.declared.signal.steps.CellReply.TheVariants.{Flag, Left, Outcome, Pending, Settled, Slept, Spent}
pub use Rattle.kanal_cell.specs.declared.signal.steps.CellStep.{CellStep}
pub use Rattle.kanal_cell.specs.declared.signal.steps.CellStep.TheVariants.{IsLeft, Leave, Poll, Settle, Sleep}
pub use Rattle.kanal_cell.specs.declared.signal.steps.Owner.{Owner}
pub use Rattle.kanal_cell.specs.declared.signal.steps.Owner.TheVariants.{Home, Nowhere}
pub use Rattle.std.proofs.Common.{Bool, List, None, Option, Some, [], ap, append_assoc, arith, bit_and, bit_or, cond, drop, eq-eqb, eqb, eqb-true, false, get_or, inl, inr, le-ltb, length, lt-ltb, ltb, ltb-false, ltb-true, ne_eqb, not, refl, rules, subst, suc, sym, take, true, true≢false, zero, ℕ, ⊎_elim, ◌&&◌, ◌++◌, ◌+◌, ◌<◌, ◌||◌, ◌∙◌, ◌∷◌, ◌≡◌, ◌≢◌, ◌≤◌, ◌⊎◌}
pub use Rattle.std.proofs.lemmas.List.{length-append, take-take, take_all, take_more}
pub use Rattle.std.specs.Prelude.{slice_get, slice_index, slice_set}
pub use lib.ListN.{get_elem?}
pub use mathlib.Core.Logic.{dite}
pub use mathlib.Core.Option.{none, some, some-injective, some-ne-none}
pub use native.Mathlib.Decide.{dec_lt, ℕ_discrete}
