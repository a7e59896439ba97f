-- The names that these proofs cite, passed on from one place. Declares nothing.
pub use Rattle.atomic_table.proofs.Lists.{at_set, at_snoc}
pub use Rattle.atomic_table.specs.Table.{Allows, Joins, Me, Splits, State, keeps}
pub use Rattle.kanal_log.specs.Shares.{HasShare, IsWhole, both, doubled, half, nothing, whole, worth}
pub use Rattle.kanal_log.specs.Views.{Addition, AreBelow, AreDisjoint, AreDistinct, AreHalvedUpTo, AreShared, Checked, Compared, Extended, HaveOneOwner, IsAmong, IsHalvedUpTo, IsOwned, IsUnownedBehind, Learned, MayAdd, ViewFits, ViewsAgree, all_own, all_worth, alone, beside, entries, no_entry, own_entry, place_of, reader_view, unowned_entry, with_share, worth_of, writer_view_with}
pub use Rattle.kanal_log.specs.declared.rule.LogView.{LogView}
pub use Rattle.kanal_log.specs.declared.rule.Share.{Share}
pub use Rattle.std.proofs.Common.{HoldsAt, List, [], ap, append_assoc, arith, false, get_or, inl, inr, length, length-append, length-drop, lt_of_not-le, refl, set, subst, suc, sym, true, true≢false, zero, ℕ, ⊎_elim, ◌++◌, ◌+◌, ◌-◌, ◌<◌, ◌∙◌, ◌∷◌, ◌≡◌, ◌≢◌, ◌≤◌, ◌⊎◌}
pub use lib.ListN.{get_elem?}
pub use mathlib.Core.List.{IsPrefix}
pub use mathlib.Core.Logic.{dite}
pub use mathlib.Core.Option.{some, some-injective, some-ne-none}
pub use native.Mathlib.Decide.{dec_le, ℕ_discrete}
