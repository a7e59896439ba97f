use Rattle.kanal_log.proofs.Common.{sym, ◌∙◌, ap, subst, AreDisjoint}
use Rattle.kanal_log.proofs.Moves.{goes, meets, compares, parts}
use Rattle.kanal_log.proofs.reader.Reader.compare.Goals as goal

pub split_seat-whole-requires : goal.split_seat-whole-requires
split_seat-whole-requires g c =
    let b = c.args.log.now in
    (c.other.invariant.0 ∙ sym b.named, b.words, goes g.E.LogEntry.unowned c.other.inside.seat.id c.other.inside.seat.me.0 (ap (λ m. m.0.keeps) c.other.invariant.1))

pub join_seat-requires : goal.join_seat-requires
join_seat-requires g c =
    let b = c.args.log.now in
    let s = c.split_seat-whole.ensures in
    let whole = c.split_seat-whole.result in (
      c.self.invariant.0 ∙ sym b.named,
      s.3 ∙ c.other.invariant.0 ∙ sym b.named,
      ap (λ m. m.1) s.4,
      b.words,
      meets g.E.LogEntry.unowned c.self.inside.seat.id c.self.inside.seat.me.0 whole.id whole.me.0 (ap (λ m. m.0.others_own) c.self.invariant.1) (ap (λ m. m.0.others_own) s.4 ∙ ap (λ m. m.0.others_own) c.other.invariant.1),
    )

pub load-requires : goal.load-requires
load-requires g c =
    let b = c.args.log.now in
    let j = c.join_seat.ensures in
    let me = c.join_seat.new.seat.me in
    (j.0 ∙ c.self.invariant.0 ∙ sym b.named, b.words, compares g.E.LogEntry.unowned b.table.shared.table_id.slots c.join_seat.new.seat.id 0 me)

pub split_seat-seat-requires : goal.split_seat-seat-requires
split_seat-seat-requires g c =
    let b = c.args.log.now in
    let l = c.load.ensures in
    (l.0 ∙ c.join_seat.ensures.0 ∙ c.self.invariant.0 ∙ sym b.named, b.words, parts g.E.LogEntry.unowned c.load.new.seat.id c.load.new.seat.me.0)

pub returns-clause-apart : goal.returns-clause-apart
returns-clause-apart g c =
    let s = c.split_seat-whole.ensures in
    let j = c.join_seat.ensures in
    let joined = c.load.ensures.2.apart in
    let theirs : AreDisjoint c.self.inside.seat.me.0.own c.split_seat-whole.result.me.0.own = subst (λ v. AreDisjoint v.0.own v.0.others_own) j.2 joined in
    let inside : AreDisjoint c.self.inside.seat.me.0.own c.other.inside.seat.me.0.own = subst (λ v. AreDisjoint c.self.inside.seat.me.0.own v.0.own) s.4 theirs in
    let first : AreDisjoint c.args.self.now.own c.other.inside.seat.me.0.own = subst (λ k. AreDisjoint k.own c.other.inside.seat.me.0.own) c.self.view_is inside in
    subst (λ k. AreDisjoint c.args.self.now.own k.own) c.other.view_is first
