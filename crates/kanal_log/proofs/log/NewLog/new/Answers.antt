use Rattle.kanal_log.proofs.Common.{ap, arith, LogView, Me}
use Rattle.kanal_log.proofs.Moves.{begins, founds}
use Rattle.kanal_log.proofs.log.NewLog.new.Goals as goal

pub of_words-requires : goal.of_words-requires
of_words-requires g c = begins g.E.LogEntry.unowned

pub split_seat-first-requires : goal.split_seat-first-requires
split_seat-first-requires g c =
    let s = c.in_ok-table.seat in
    let e = c.in_ok-table.ensures in
    (e.2, omega (arith, e.0), founds g.E.LogEntry.unowned s.id s.me.0 (ap (λ (m : Me (Unit {0}) (LogView g.row.E.Denot)). m.0.own) e.4))
