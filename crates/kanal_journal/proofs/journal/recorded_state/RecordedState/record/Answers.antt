use Rattle.kanal_journal.proofs.Common.{refl, ◌∙◌, rules}
use Rattle.kanal_journal.proofs.Replaying.{step-made, step-still}
use Rattle.kanal_journal.proofs.journal.recorded_state.RecordedState.record.Goals as goal

pub returns-then-not-is_no_memory-clause-sound : goal.returns-then-not-is_no_memory-clause-sound
returns-then-not-is_no_memory-clause-sound g c = (step-made c.args.entries.now.items c.args.running.now c.requires c.reserve.new.running c.reserve.new.entries.items c.reserve.ensures.same c.reserve.ensures.entries c.len.result (c.len.ensures ∙ c.reserve.new.entries.ok.0) c.answer-reply.new.self c.args.party c.args.event c.answer-reply.result c.answer-reply.ensures.noted c.answer-reply.ensures.within c.enter.new.entries (search rules) c.enter.ensures).0

pub returns-then-not-is_no_memory-clause-records : goal.returns-then-not-is_no_memory-clause-records
returns-then-not-is_no_memory-clause-records g c = (step-made c.args.entries.now.items c.args.running.now c.requires c.reserve.new.running c.reserve.new.entries.items c.reserve.ensures.same c.reserve.ensures.entries c.len.result (c.len.ensures ∙ c.reserve.new.entries.ok.0) c.answer-reply.new.self c.args.party c.args.event c.answer-reply.result c.answer-reply.ensures.noted c.answer-reply.ensures.within c.enter.new.entries (search rules) c.enter.ensures).1

pub returns-else-not-is_no_memory-clause-sound : goal.returns-else-not-is_no_memory-clause-sound
returns-else-not-is_no_memory-clause-sound g c = (step-still c.args.entries.now.items c.args.running.now c.requires c.reserve.new.running c.reserve.new.entries.items c.reserve.ensures.same c.reserve.ensures.entries c.len.result (c.len.ensures ∙ c.reserve.new.entries.ok.0) c.answer-reply.new.self c.args.party c.args.event c.answer-reply.result c.answer-reply.ensures.noted c.answer-reply.ensures.within c.reserve.new.entries (search rules) refl).0

pub returns-else-not-is_no_memory-clause-records : goal.returns-else-not-is_no_memory-clause-records
returns-else-not-is_no_memory-clause-records g c = (step-still c.args.entries.now.items c.args.running.now c.requires c.reserve.new.running c.reserve.new.entries.items c.reserve.ensures.same c.reserve.ensures.entries c.len.result (c.len.ensures ∙ c.reserve.new.entries.ok.0) c.answer-reply.new.self c.args.party c.args.event c.answer-reply.result c.answer-reply.ensures.noted c.answer-reply.ensures.within c.reserve.new.entries (search rules) refl).1
