use Rattle.kanal_log.proofs.Common.{◌≡◌, sym, ◌∙◌, ap, subst, MayAdd}
use Rattle.kanal_log.proofs.Moves.{goes, meets, extends, parts}
use Rattle.kanal_log.proofs.log.Writer.extend.Goals as goal

pub split_seat-whole-requires : goal.split_seat-whole-requires
split_seat-whole-requires g c =
    let b = c.args.log.now in
    (c.reader.invariant.0 ∙ sym b.named, b.words, goes g.E.LogEntry.unowned c.reader.inside.seat.id c.reader.inside.seat.me.0 (ap (λ m. m.0.keeps) c.reader.invariant.1))

pub join_seat-requires : goal.join_seat-requires
join_seat-requires g c =
    let b = c.args.log.now in
    let s = c.split_seat-whole.ensures in
    let whole = c.split_seat-whole.result in (
      c.self.invariant.0 ∙ sym b.named,
      s.3 ∙ c.reader.invariant.0 ∙ sym b.named,
      ap (λ m. m.1) s.4,
      b.words,
      meets g.E.LogEntry.unowned c.self.inside.seat.id c.self.inside.seat.me.0 whole.id whole.me.0 (ap (λ m. m.0.others_own) c.self.invariant.1) (ap (λ m. m.0.others_own) s.4 ∙ ap (λ m. m.0.others_own) c.reader.invariant.1),
    )

pub load-requires : goal.load-requires
load-requires g c =
    let b = c.args.log.now in
    let j = c.join_seat.ensures in
    let me = c.join_seat.new.seat.me in
    let joined : c.join_seat.new.seat.me.0.others_share ≡ c.split_seat-whole.result.me.0.share = ap (λ m. m.0.others_share) j.2 in
    let went : c.split_seat-whole.result.me.0.share ≡ c.reader.inside.seat.me.0.share = ap (λ m. m.0.share) c.split_seat-whole.ensures.4 in
    let seen : c.reader.inside.seat.me.0.share ≡ c.args.reader.now.share = ap (λ k. k.share) c.reader.view_is in (
      j.0 ∙ c.self.invariant.0 ∙ sym b.named,
      b.words,
      extends g.E.LogEntry.unowned b.table.shared.table_id.slots c.join_seat.new.seat.id 0 me g.N.More.more (ap (λ m. m.0.keeps) j.2 ∙ ap (λ m. m.0.keeps) c.self.invariant.1)
          (subst (λ x. MayAdd g.E.LogEntry.unowned x g.N.More.more) (sym (joined ∙ went ∙ seen)) c.requires.may),
    )

pub split_seat-seat-requires : goal.split_seat-seat-requires
split_seat-seat-requires g c =
    let b = c.args.log.now in
    let l = c.load.ensures in
    (l.0 ∙ c.join_seat.ensures.0 ∙ c.self.invariant.0 ∙ sym b.named, b.words, parts g.E.LogEntry.unowned c.load.new.seat.id c.load.new.seat.me.0)
