use Rattle.kanal_one_history.proofs.Common.{subst, sym, HasShare, Known, Call}
use Rattle.kanal_one_history.proofs.Telling.{legal-more, shown-more, line-more}
use Rattle.kanal_one_history.proofs.history.GhostHistoryHistory.append.Goals as goal

pub invariant_of-self : goal.invariant_of-self
invariant_of-self g c =
    let e = g.M.EntryOf.entry c.args.about.now c.args.answer.now in
    let told = c.requires.told in
    legal-more g.J.LogId.capacity c.self.inside.writer c.args.self.now told.0 e c.self.view_is told.1 c.append_of.new.self c.self.invariant told.2 c.append_of.ensures.added

pub invariant_of-pass : goal.invariant_of-pass
invariant_of-pass g c =
    let e = g.M.EntryOf.entry c.args.about.now c.args.answer.now in
    let told = c.requires.told in
    let legal = shown-more g.J.LogId.capacity c.self.inside.writer c.args.self.now told.0 e c.self.view_is told.1 c.append_of.new.reader _ _ c.self.invariant told.2 c.append_of.ensures.shown in
    (legal, subst (λ (k : Known (Call g.row.T.Denot)). HasShare k.share) (sym c.append_of.ensures.shown) c.pass.invariant.1)

pub returns-clause-stands : goal.returns-clause-stands
returns-clause-stands g c l is =
    let e = g.M.EntryOf.entry c.args.about.now c.args.answer.now in
    line-more g.J.LogId.capacity c.self.inside.writer c.args.self.now l e c.self.view_is is c.append_of.new.self c.append_of.ensures.added
