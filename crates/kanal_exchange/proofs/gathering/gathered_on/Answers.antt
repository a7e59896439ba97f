use Rattle.std.proofs.Common.{rules, ◌≡◌, ◌+◌, ◌∙◌, length}
use Rattle.kanal_exchange.proofs.gathering.gathered_on.Goals as goal

pub returns : goal.returns
returns g c =
    let sent = c.in_ok-one.ensures.sent in
    let rest = c.in_ok-one.ensures.other.1 in
    let first = c.args.first.items in
    let second = c.args.second.items in
    let count : c.in-Some.count ≡ length first + length second = search rules in
    record { gathered = c.overseen.ensures.merged first second c.in_ok-one.got.items sent.0 rest.0 rest.2 (rest.4 ∙ count) }
