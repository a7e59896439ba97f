use Rattle.std.proofs.Common.{rules, ◌≡◌, refl, sym, ◌∙◌}
use Rattle.kanal_recorded.proofs.inner.Inner.finish.Goals as goal

pub returns-then-is_merged-clause-finished : goal.returns-then-is_merged-clause-finished
returns-then-is_merged-clause-finished g c =
    let state = c.args.self.state in
    let journal = c.into_journal.ensures in
    let same : state.capacity ≡ c.args.capacity = sym c.capacity.ensures ∙ c.is_capacity-is_own.ensures (search rules) in
    record {
      capacity = journal.journal.0 ∙ same;
      end = state.account;
      replays = rw (sym same, journal.journal.1) journal.replays;
      settled = sym journal.told.0;
      drained = sym journal.told.1;
      cleared = sym journal.told.2;
      merged = rw (journal.journal.1 ∙ sym c.entries.ensures) (c.is_merged.ensures (search rules));
    }

pub returns-then-is_merged-clause-leads : goal.returns-then-is_merged-clause-leads
returns-then-is_merged-clause-leads g c =
    let state = c.args.self.state in
    let journal = c.into_journal.ensures in
    let same : state.capacity ≡ c.args.capacity = sym c.capacity.ensures ∙ c.is_capacity-is_own.ensures (search rules) in
    record {
      end = state.account;
      leads = rw (sym same, journal.journal.1) journal.leads;
      history = rw (journal.journal.1, journal.told.0, journal.told.1, journal.replays.replies) refl;
      cleared = sym journal.told.2;
    }

pub returns-then-is_merged-clause-paired : goal.returns-then-is_merged-clause-paired
returns-then-is_merged-clause-paired g c =
    let journal = c.into_journal.ensures in
    λ n. rw (journal.journal.1, journal.told.0, journal.told.1) (journal.paired n)

pub returns-then-is_merged-clause-entries : goal.returns-then-is_merged-clause-entries
returns-then-is_merged-clause-entries g c = search rules

pub returns-then-is_merged-clause-settled : goal.returns-then-is_merged-clause-settled
returns-then-is_merged-clause-settled g c = search rules

pub returns-then-is_merged-clause-drained : goal.returns-then-is_merged-clause-drained
returns-then-is_merged-clause-drained g c = search rules

pub returns-then-is_merged-clause-cleared : goal.returns-then-is_merged-clause-cleared
returns-then-is_merged-clause-cleared g c = search rules

pub returns-clause-same : goal.returns-clause-same
returns-clause-same g c = search rules
