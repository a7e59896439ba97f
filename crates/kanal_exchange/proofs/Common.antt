-- The names that these proofs cite, passed on from one place. Declares nothing.
pub use Rattle.kanal_exchange.specs.Readings.{is_among, read_at}
pub use Rattle.kanal_exchange.specs.Stages.{Handed, Staged, StagesMade, by_two}
pub use Rattle.kanal_exchange.specs.Tales.{HasExchanged, asked_in, cleared_in, marks_of, sent_in}
pub use Rattle.kanal_journal.specs.Paired.{ArePaired, Demand, Paired, PairedHistory, along, asked, cleared_by, demand_stays, history_from, kept, receipts, receipts_from, send_stays, sent, without_last}
pub use Rattle.kanal_log.proofs.Places.{among-cases, among-left, among-right}
pub use Rattle.kanal_log.proofs.Readers.{prefix_length, prefix_trans}
pub use Rattle.kanal_log.specs.Views.{AreBelow, AreDisjoint, IsAmong, Known, OwnsAllBut}
pub use Rattle.kanal_one_history.proofs.Exchanging.{got_longer, got_more, got_none, got_received, put_kept, put_longer, put_more, put_none}
pub use Rattle.kanal_one_history.proofs.Pairing.{legal-paired}
pub use Rattle.kanal_one_history.proofs.Waits.{waits_as_settled}
pub use Rattle.kanal_one_history.specs.Calls.{AreTold, IsLegal, history_of, with_calls}
pub use Rattle.kanal_one_history.specs.Puts.{AreGot, ArePut, Exchanges, ExchangesNothing, HasMade, WaitsAsSettled}
pub use Rattle.kanal_state.specs.Calls.{MovesNoMessage}
pub use Rattle.kanal_state.specs.declared.call.Call.{Call}
pub use Rattle.std.proofs.Common.{Bool, HoldsAt, List, Option, Some, [], ap, append-nil, append_assoc, arith, cond, false, filter, inl, inr, length, length-append, map, refl, rules, subst, suc, sum_by, sym, take, true, zero, ℕ, ⊎_elim, ◌++◌, ◌+◌, ◌-◌, ◌<◌, ◌==◌, ◌∙◌, ◌∷◌, ◌≡◌, ◌≤◌, ◌⊎◌}
pub use Rattle.std.proofs.Math.Seq.{take-length}
pub use Rattle.std.proofs.lemmas.Bool.{cases_Bool}
pub use mathlib.Core.List.{IsPrefix}
