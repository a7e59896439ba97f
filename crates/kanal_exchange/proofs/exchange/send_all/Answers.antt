use Rattle.std.proofs.Common.{rules, []}
use Rattle.kanal_exchange.proofs.Telling.{tells_longer}
use Rattle.kanal_exchange.proofs.exchange.send_all.Goals as goal

pub returns-in-Ok-clause-sent : goal.returns-in-Ok-clause-sent
returns-in-Ok-clause-sent g c = tells_longer c.args.messages.items [] c.in-Ok.sender c.learn.new.self c.in-Ok.ensures.sent c.learn.ensures.this (search rules)
