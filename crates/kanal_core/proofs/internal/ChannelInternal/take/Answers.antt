use Rattle.kanal_core.proofs.Common.{length, ◌∙◌, subst, IsWithin, IsOneSided}
use Rattle.kanal_core.proofs.LettingIn.{TakenSoundly, taken-soundly}
use Rattle.kanal_core.proofs.internal.ChannelInternal.take.Goals as goal

taken : (g : _) (c : goal.After-let_in g) → TakenSoundly c.self.inside.capacity c.self.inside.senders c.self.inside.receivers c.self.inside.next c.in-Some.message c.self.inside.waiters c.pop_front.new.self c.let_in.result c.let_in.new.buffer c.let_in.new.waiters
taken g c =
    let now = c.self.inside in
    let was = c.in-Some.ensures.0 in
    let side = (let P = λ (ms : _). IsOneSided ms now.capacity now.waiters in subst P was c.self.invariant.side) in
    let within = (let P = λ (ms : _). IsWithin (length ms) now.capacity in subst P was c.self.invariant.within) in
    taken-soundly now.capacity now.senders now.receivers now.next c.in-Some.message now.waiters c.pop_front.new.self side within c.self.invariant.rises c.if-self-eq0.false c.let_in.result c.let_in.new.buffer c.let_in.new.waiters c.let_in.ensures

pub invariant_of-self : goal.invariant_of-self
invariant_of-self g c =
    let t = taken g c in
    record {
      side = t.side;
      rises = t.rises;
      within = t.within;
      room = λ some. t.limit ∙ (c.in-Some.ensures.1 ∙ c.self.invariant.room some);
    }

pub returns-in-Some-clause-step : goal.returns-in-Some-clause-step
returns-in-Some-clause-step g c = rw (← c.self.view_is, c.in-Some.ensures.0) (taken g c).step

pub returns-in-Some-clause-waiter : goal.returns-in-Some-clause-waiter
returns-in-Some-clause-waiter g c = rw (← c.self.view_is) (taken g c).oldest
