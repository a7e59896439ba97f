use Rattle.kanal_exchange.proofs.Common.{◌≡◌, [], length, HasExchanged}
use Rattle.kanal_exchange.proofs.exchange.receive_each.Given as goal

-- so many messages were received so far, and the share stays
abbrev pub invariant-loop-number : goal.invariant-loop-number
invariant-loop-number g l =
    record { received : HasExchanged [] l.got.items l.pass; share : l.pass.share ≡ l.fn.pass.share; count : length l.got.items ≡ l._number }
