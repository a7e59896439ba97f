use Rattle.kanal_exchange.proofs.Common.{◌≡◌, ◌++◌, ap, ◌∙◌, subst, IsPrefix, Known, OwnsAllBut, Call, MovesNoMessage}
use Rattle.kanal_exchange.proofs.Telling.{exchanged}
use Rattle.kanal_exchange.proofs.exchange.overseen.Goals as goal

pub returns : goal.returns
returns g c =
    let log = c.learn.new.self.log in
    let same = c.owns_once.ensures.same in
    let own : c.learn.new.self.own ≡ c.args.receiver.own ++ c.args.sender.own =
    c.learn.ensures.own ∙ (ap (λ (k : Known (Call g.row.T.Denot)). k.own ++ c.owns_once.new.self.own) same.1 ∙ ap (λ (k : Known (Call g.row.T.Denot)). c.args.receiver.own ++ k.own) same.0) in
    record {
      in_order = λ put got tells hears.
          exchanged g.J.LogId.capacity c.args.sender c.args.receiver log put got tells hears
          (subst (λ (k : Known (Call g.row.T.Denot)). IsPrefix k.log log) same.0 c.learn.ensures.this)
          (subst (λ (k : Known (Call g.row.T.Denot)). IsPrefix k.log log) same.1 c.learn.ensures.that)
          c.owns_once.ensures.apart c.holds.ensures.legal
          (subst (λ xs. OwnsAllBut (λ (x : Call g.row.T.Denot). MovesNoMessage x.event) log xs) own c.owns_all.ensures.each);
    }
