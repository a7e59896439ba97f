-- The names that these proofs cite, passed on from one place. Declares nothing.
pub use Rattle.kanal_journal.specs.declared.journal.recorded_state.Entry.{Entry}
pub use Rattle.kanal_recorded.specs.Comparing.{AreAtEnd, HasReached, HaveReached, NotesFit}
pub use Rattle.kanal_recorded.specs.Merges.{IsMerged, IsNoteOf, IsOwn, NotesAmong, Placed, calls_of, placed}
pub use Rattle.kanal_recorded.specs.Passes.{Calls}
pub use Rattle.kanal_recorded.specs.declared.finish.Reached.{Reached}
pub use Rattle.kanal_core.proofs.Common.{Bool, List, [], ap, append-nil, arith, cond, drop, false, inl, inr, length, length-append, refl, rules, subst, suc, sym, take, true, zero, ℕ, ◌++◌, ◌+◌, ◌-◌, ◌<◌, ◌∙◌, ◌∷◌, ◌≡◌, ◌≢◌, ◌≤◌, nat_tests, take-append-drop, take_all}
pub use Rattle.kanal_journal.proofs.Common.{get_or, replicate, length-map, sum_by}
pub use Rattle.std.proofs.Common.{length-drop, length-take, nat_eq, nat_lt, set, slice_index_or}
pub use Rattle.std.proofs.lemmas.List.{get_or-drop, get_or-replicate, get_or-set_other, get_or-set_same, get_or-take, get_or_default, map-append, take-append-le, take_more}
pub use Rattle.std.proofs.lemmas.List.Elements.{All-cons, All-from_all_within, All-nil, AllWithin-more, AllWithin-upto}
pub use Rattle.std.specs.List.{All, AllPairs, AllWithin, Any}
pub use Rattle.std.specs.Prelude.{map}
