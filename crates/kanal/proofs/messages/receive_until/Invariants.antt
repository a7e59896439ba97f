use Rattle.std.proofs.Common.{List, Ok}
use denote.Param.Always.{always_mut}
use Rattle.kanal.specs.Messages.{HandsEach}
use Rattle.kanal.proofs.messages.receive_until.Given as goal

-- what came so far was received one after the other, and handed to the call
abbrev pub invariant-loop : goal.invariant-loop
invariant-loop g l =
    (always_mut g.F.FnMut l.initial.call → always_mut g.F.FnMut l.call)
    × ((messages : List _) × HandsEach g.H.History.relations g.F.FnMut (Ok tt) l.fn.pass l.initial.call messages l.pass l.call)
