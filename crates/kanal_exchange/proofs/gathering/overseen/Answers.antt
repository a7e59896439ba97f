use Rattle.kanal_exchange.proofs.Common.{◌≡◌, ◌++◌, ap, ◌∙◌, subst, IsPrefix, AreDisjoint, Known, OwnsAllBut, prefix_trans, Call, MovesNoMessage}
use Rattle.kanal_exchange.proofs.Merging.{merged}
use Rattle.kanal_exchange.proofs.gathering.overseen.Goals as goal

pub returns : goal.returns
returns g c =
    let log = c.learn-2.new.self.log in
    let one : c.owns_once-2.new.self ≡ c.args.one = c.owns_once-2.ensures.same.0 ∙ c.owns_once.ensures.same.0 in
    let two : c.owns_once-3.new.self ≡ c.args.two = c.owns_once-3.ensures.same.0 ∙ c.owns_once.ensures.same.1 in
    let other : c.owns_once-3.new.other ≡ c.args.receiver = c.owns_once-3.ensures.same.1 ∙ c.owns_once-2.ensures.same.1 in
    let seen1 : IsPrefix c.args.one.log log = prefix_trans c.args.one.log c.learn.new.self.log log (subst (λ (k : Known (Call g.row.T.Denot)). IsPrefix k.log c.learn.new.self.log) one c.learn.ensures.this) c.learn-2.ensures.this in
    let seen2 : IsPrefix c.args.two.log log = prefix_trans c.args.two.log c.learn.new.self.log log (subst (λ (k : Known (Call g.row.T.Denot)). IsPrefix k.log c.learn.new.self.log) two c.learn.ensures.that) c.learn-2.ensures.this in
    let heard : IsPrefix c.args.receiver.log log = subst (λ (k : Known (Call g.row.T.Denot)). IsPrefix k.log log) other c.learn-2.ensures.that in
    let apart12 : AreDisjoint c.args.one.own c.args.two.own = c.owns_once.ensures.apart in
    let apart13 : AreDisjoint c.args.one.own c.args.receiver.own = subst (λ (k : Known (Call g.row.T.Denot)). AreDisjoint k.own c.args.receiver.own) c.owns_once.ensures.same.0 c.owns_once-2.ensures.apart in
    let apart23 : AreDisjoint c.args.two.own c.args.receiver.own =
    subst (λ (k : Known (Call g.row.T.Denot)). AreDisjoint c.args.two.own k.own) c.owns_once-2.ensures.same.1 (subst (λ (k : Known (Call g.row.T.Denot)). AreDisjoint k.own c.owns_once-2.new.other.own) c.owns_once.ensures.same.1 c.owns_once-3.ensures.apart) in
    let own : c.learn-2.new.self.own ≡ c.args.receiver.own ++ (c.args.two.own ++ c.args.one.own) =
    c.learn-2.ensures.own ∙ (ap (λ (k : Known (Call g.row.T.Denot)). k.own ++ c.learn.new.self.own) other
    ∙ ap (λ xs. c.args.receiver.own ++ xs) (c.learn.ensures.own ∙ (ap (λ (k : Known (Call g.row.T.Denot)). k.own ++ c.owns_once-2.new.self.own) two ∙ ap (λ (k : Known (Call g.row.T.Denot)). c.args.two.own ++ k.own) one))) in
    record {
      merged = λ first second got tells also hears count.
          merged g.J.LogId.capacity c.args.one c.args.two c.args.receiver log first second got tells also hears seen1 seen2 heard apart12 apart13 apart23 c.holds.ensures.legal
          (subst (λ xs. OwnsAllBut (λ (x : Call g.row.T.Denot). MovesNoMessage x.event) log xs) own c.owns_all.ensures.each) count;
    }
