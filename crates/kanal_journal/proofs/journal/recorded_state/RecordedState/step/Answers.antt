use Rattle.kanal_journal.proofs.Common.{ap, ◌∙◌, inl, inr, subst, Records, Recording}
use Rattle.kanal_journal.specs.RecordedInside.{journal_of}
use Rattle.kanal_journal.proofs.journal.recorded_state.RecordedState.step.Goals as goal

pub invariant_of-self : goal.invariant_of-self
invariant_of-self g c =
    record {
      sound = c.record.ensures.sound;
      capacity = elim c.record.ensures.records [ inl k ↦ ap (λ (r : Recording _). r.capacity) k.1 | inr k ↦ ap (λ (r : Recording _). r.capacity) k.1 ] ∙ c.self.invariant.capacity;
    }

pub returns : goal.returns
returns g c =
    let P : Recording _ → Type 0 = λ r. Records r c.args.party c.args.event c.record.result (journal_of c.record.new.entries.items c.record.new.running) in
    subst P c.self.view_is c.record.ensures.records
