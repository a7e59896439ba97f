use Rattle.std.proofs.Common.{rules, []}
use Rattle.kanal_exchange.proofs.Telling.{tells_longer}
use Rattle.kanal_exchange.proofs.exchange.receive_all.Goals as goal

pub returns-in-Ok-clause-received : goal.returns-in-Ok-clause-received
returns-in-Ok-clause-received g c = tells_longer [] c.in-Ok.got.items c.in-Ok.receiver c.learn.new.self c.in-Ok.ensures.received c.learn.ensures.this (search rules)
