use Rattle.kanal_log.proofs.Common.{sym, ◌∙◌, ap, subst, IsWhole}
use Rattle.kanal_log.proofs.Moves.{checks}
use Rattle.kanal_log.proofs.reader.Reader.owns_all.Goals as goal

pub load-requires : goal.load-requires
load-requires g c =
    let b = c.args.log.now in
    (c.self.invariant.0 ∙ sym b.named, b.words, checks g.E.LogEntry.unowned b.table.shared.table_id.slots c.self.inside.seat.id 0 c.self.inside.seat.me (subst IsWhole (sym (ap (λ k. k.share) c.self.view_is)) c.requires.whole))
