use Rattle.kanal_core.proofs.Common.{refl, sym, arith, inl, Closed}
use Rattle.kanal_core.proofs.Draining.{none-within}
use Rattle.kanal_core.proofs.Sided.{cleared-line, ends-line}
use Rattle.kanal_core.proofs.internal.ChannelInternal.close.Goals as goal

pub invariant_of-self : goal.invariant_of-self
invariant_of-self g c =
    rw (c.all.ensures.left, c.take_all.ensures.left) (record {
      side = inl refl;
      rises = omega arith;
      within = none-within c.self.inside.capacity;
      room = λ some. absurd (omega (arith, some));
    })

pub returns-clause-step : goal.returns-clause-step
returns-clause-step g c =
    rw (← c.self.view_is, c.all.ensures.ended, c.all.ensures.left, c.take_all.ensures.left, ends-line c.self.inside.buffer.messages c.self.inside.capacity c.self.inside.waiters c.self.invariant.side c.self.invariant.within Closed)
    refl

pub returns-clause-cleared : goal.returns-clause-cleared
returns-clause-cleared g c =
    rw (c.new.ensures, c.take_all.ensures.out, ← c.self.view_is)
    (sym (cleared-line c.self.inside.buffer.messages c.self.inside.capacity c.self.inside.waiters c.self.invariant.side c.self.invariant.within))
