use Rattle.std.proofs.Common.{option_map, rules}
use Rattle.kanal_futures.specs.Futures.{call_begun}
use Rattle.kanal.specs.Sends.{Behind, StillGives, all_begun, all_idle, flattened, stage_begun, stage_idle}
use Rattle.kanal.proofs.Sending.{ended_at, same_on, some_same}
use Rattle.kanal.proofs.send_all.SendAllFuture.poll.Goals as goal

pub returns-in-None-replace-clause-begun : goal.returns-in-None-replace-clause-begun
returns-in-None-replace-clause-begun g c =
    let before = Behind c.args.self.now.ready.queue.items (StillGives g.S.Stream.yields c.args.self.now.stream) in
    let after = Behind c.send_each.new.ready.queue.items (StillGives g.S.Stream.yields c.send_each.new.stream) in
    let next = flattened (option_map (λ held. stage_begun held.1) c.replace.new.self) in
    let free = flattened (option_map (λ held. stage_idle held.1) c.replace.new.self) in
    some_same g.H.History.relations before after (call_begun c.resume-call.result) (all_begun c.args.self.now) (call_begun c.send_each.new.call) next _ (all_idle c.args.self.now) c.send_each.new.idle free
    c.in-Pending.ensures.begun (search rules) (search rules) (search rules) (search rules)

pub returns-in-None-replace-clause-same : goal.returns-in-None-replace-clause-same
returns-in-None-replace-clause-same g c = λ r came.
    let before = Behind c.args.self.now.ready.queue.items (StillGives g.S.Stream.yields c.args.self.now.stream) in
    let after = Behind c.send_each.new.ready.queue.items (StillGives g.S.Stream.yields c.send_each.new.stream) in
    same_on g.H.History.relations c.args.self.now.held c.replace.new.self before after r (search rules) (search rules) (returns-in-None-replace-clause-begun g c) came

pub returns-in-Ready-clause-value : goal.returns-in-Ready-clause-value
returns-in-Ready-clause-value g c =
    ended_at g.H.History.relations c.args.self.now.held c.send_each.new.idle (Behind c.args.self.now.ready.queue.items (StillGives g.S.Stream.yields c.args.self.now.stream)) c.in-Ready.answer (search rules) (search rules)
