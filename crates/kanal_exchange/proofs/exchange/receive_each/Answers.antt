use Rattle.kanal_exchange.proofs.Common.{rules, ◌≡◌, [], ◌∷◌, ◌++◌, ap, arith, length, length-append, refl, sym, subst, ◌∙◌, HasExchanged}
use Rattle.kanal_exchange.proofs.Telling.{tells_none, tells_more}
use Rattle.kanal_exchange.proofs.exchange.receive_each.Goals as goal

pub loop-number-init : goal.loop-number-init
loop-number-init g c =
    record {
      received = subst (λ xs. HasExchanged [] xs c.args.pass) (sym c.new-got.ensures.items) (tells_none c.args.pass c.requires.fresh);
      share = refl;
      count = ap length c.new-got.ensures.items;
    }

pub loop-number-preserved : goal.loop-number-preserved
loop-number-preserved g c =
    let i = c.loop-number.invariant in
    let message = c.in_ok-message.message in
    let next = c.in_ok-message.next in
    let more : c.push.new.self.items ≡ c.loop-number.got.items ++ message ∷ [] = search rules in
    let told = tells_more g.J.LogId.capacity [] c.loop-number.got.items [] (message ∷ []) c.loop-number.pass next i.received c.in_ok-message.ensures.got in
    record {
      received = subst (λ xs. HasExchanged [] xs next) (sym more) told.0;
      share = told.1 ∙ i.share;
      count = ap length more ∙ (length-append c.loop-number.got.items (message ∷ []) ∙ omega (arith, i.count));
    }
