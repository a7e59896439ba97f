use Rattle.std.proofs.Common.{Result}
use denote.Param.Always.{always_mut}
use Rattle.futures.specs.Task.{Keeps}
use Rattle.kanal.specs.Messages.{TaskReceivesUntil}
use Rattle.kanal.proofs.each.TryForEachFuture.poll.Given as goal

-- what comes from here on came from the beginning on
abbrev pub invariant-loop : goal.invariant-loop
invariant-loop g l =
    let all = TaskReceivesUntil g.H.History.relations g.F.FnMut in
    always_mut g.F.FnMut l.self.call × Keeps l.initial.cx l.cx
    × ((answer : Result (Result (Unit {0}) _) _) → all l.self.stream l.self.call answer → all l.initial.self.stream l.initial.self.call answer)
