use Rattle.kanal_exchange.proofs.Common.{◌≡◌, Staged}
use Rattle.kanal_exchange.proofs.pipeline.hand_on_all.Given as goal

-- so many were handed on so far, and the shares stay
abbrev pub invariant-loop-number : goal.invariant-loop-number
invariant-loop-number g l =
    record {
      staged : Staged (g.S.Stage.value l.stage) l._number l.hears l.tells;
      share_heard : l.hears.share ≡ l.fn.hears.share;
      share_told : l.tells.share ≡ l.fn.tells.share;
    }
