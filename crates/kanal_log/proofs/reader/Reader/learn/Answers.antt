use Rattle.std.proofs.Common.{sym, ◌∙◌, ap}
use Rattle.kanal_log.proofs.Moves.{meets, learns}
use Rattle.kanal_log.proofs.reader.Reader.learn.Goals as goal

pub join_seat-requires : goal.join_seat-requires
join_seat-requires g c =
    let b = c.args.log.now in
    let whole = c.other.inside.seat in (
      c.self.invariant.0 ∙ sym b.named,
      c.other.invariant.0 ∙ sym b.named,
      ap (λ m. m.1) c.other.invariant.1,
      b.words,
      meets g.E.LogEntry.unowned c.self.inside.seat.id c.self.inside.seat.me.0 whole.id whole.me.0 (ap (λ m. m.0.others_own) c.self.invariant.1) (ap (λ m. m.0.others_own) c.other.invariant.1),
    )

pub load-requires : goal.load-requires
load-requires g c =
    let b = c.args.log.now in
    let me = c.join_seat.new.seat.me in
    (c.join_seat.ensures.0 ∙ c.self.invariant.0 ∙ sym b.named, b.words, learns g.E.LogEntry.unowned b.table.shared.table_id.slots c.join_seat.new.seat.id 0 me)
