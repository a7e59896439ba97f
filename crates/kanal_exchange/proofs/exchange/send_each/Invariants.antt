use Rattle.kanal_exchange.proofs.Common.{◌≡◌, [], HasExchanged}
use Rattle.kanal_exchange.proofs.exchange.send_each.Given as goal

-- the messages so far were sent, and the share stays
abbrev pub invariant-loop-message : goal.invariant-loop-message
invariant-loop-message g l = HasExchanged l.yielded [] l.pass × (l.pass.share ≡ l.fn.pass.share)
