use Rattle.std.proofs.Common.{sym, ◌∙◌}
use Rattle.kanal_log.proofs.Moves.{reads}
use Rattle.kanal_log.proofs.reader.Reader.read.Goals as goal

pub split_seat-seat-requires : goal.split_seat-seat-requires
split_seat-seat-requires g c =
    let b = c.args.log.now in
    (c.self.invariant.0 ∙ sym b.named, b.words, reads g.E.LogEntry.unowned c.self.inside.seat.id c.self.inside.seat.me.0)
