use Rattle.std.proofs.Common.{◌≡◌, List, ◌++◌}
use Rattle.std.specs.VecDeque.{deque_len}
use denote.Param.Always.{always_mut}
use Rattle.kanal.specs.Messages.{CallsEach}
use Rattle.kanal.proofs.each.hand_each.Given as goal

-- a beginning was handed over, and what is left comes behind it
abbrev pub invariant-loop-message : goal.invariant-loop-message
invariant-loop-message g l =
    always_mut g.F.FnMut l.call
    × ((done : List _) × CallsEach g.F.FnMut tt l.initial.call done l.call × (l.initial.messages.items ≡ done ++ l.messages.items))

abbrev pub decreases-loop-message : goal.decreases-loop-message
decreases-loop-message g l = deque_len l.messages
