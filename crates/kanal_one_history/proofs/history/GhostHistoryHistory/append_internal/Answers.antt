use Rattle.kanal_one_history.proofs.Telling.{legal-more, shown-more, line-more}
use Rattle.kanal_one_history.proofs.history.GhostHistoryHistory.append_internal.Goals as goal

pub invariant_of-self : goal.invariant_of-self
invariant_of-self g c =
    let e = g.M.EntryOf.entry c.args.about.now c.args.answer.now in
    let told = c.requires.told in
    legal-more g.J.LogId.capacity c.self.inside.writer c.args.self.now told.0 e c.self.view_is told.1 c.append_unowned_of.new.self c.self.invariant told.2 c.append_unowned_of.ensures.added

pub invariant_of-internal_pass : goal.invariant_of-internal_pass
invariant_of-internal_pass g c =
    let e = g.M.EntryOf.entry c.args.about.now c.args.answer.now in
    let told = c.requires.told in
    shown-more g.J.LogId.capacity c.self.inside.writer c.args.self.now told.0 e c.self.view_is told.1 c.append_unowned_of.new.reader _ _ c.self.invariant told.2 c.append_unowned_of.ensures.shown

pub returns-clause-stands : goal.returns-clause-stands
returns-clause-stands g c l is =
    let e = g.M.EntryOf.entry c.args.about.now c.args.answer.now in
    line-more g.J.LogId.capacity c.self.inside.writer c.args.self.now l e c.self.view_is is c.append_unowned_of.new.self c.append_unowned_of.ensures.added
