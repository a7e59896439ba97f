use Rattle.std.proofs.Common.{ap, refl, ◌∙◌}
use Rattle.kanal_exchange.proofs.Staging.{staged_none, staged_more}
use Rattle.kanal_exchange.proofs.pipeline.hand_on_all.Goals as goal

pub loop-number-init : goal.loop-number-init
loop-number-init g c =
    let same = c.in_ok-hears.ensures.same in
    record {
      staged = staged_none (g.S.Stage.value c.args.stage.now) c.in_ok-hears.hears c.args.tells (ap (λ p. p.own) same ∙ c.requires.fresh.0) c.requires.fresh.1;
      share_heard = ap (λ p. p.share) same;
      share_told = refl;
    }

pub loop-number-preserved : goal.loop-number-preserved
loop-number-preserved g c =
    let i = c.loop-number.invariant in
    let more = staged_more (g.S.Stage.value c.args.stage.now) g.J.LogId.capacity g.K.LogId.capacity c.loop-number._number c.loop-number.hears c.hand_on.new.hears c.loop-number.tells c.hand_on.new.tells i.staged c.in_default.ensures.handed in
    record { staged = more.0; share_heard = more.1 ∙ i.share_heard; share_told = more.2 ∙ i.share_told }
