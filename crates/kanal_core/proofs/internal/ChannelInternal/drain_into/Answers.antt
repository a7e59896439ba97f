use Rattle.kanal_core.proofs.Common.{rules, ◌≡◌, ◌++◌, length, map, refl, append_assoc, arith, bare}
use Rattle.kanal_core.proofs.Sides.{entries}
use Rattle.kanal_core.proofs.Draining.{drains, line-long, line-messages, none-within, rises-drained, side-drained}
use Rattle.kanal_core.proofs.internal.ChannelInternal.drain_into.Goals as goal

-- the room that is asked for is the line's length
refused-long : (g : _) (c : goal.After-from_residual g) → length (map bare c.self.inside.buffer.messages ++ entries c.self.inside.waiters) ≡ c.in-Some.count
refused-long g c =
    let now = c.self.inside in
    rw (c.in-Some.ensures.1, c.len.ensures.len, c.senders_len.ensures) (line-long now.capacity now.buffer.messages now.waiters c.self.invariant.side c.self.invariant.within)

moved-long : (g : _) (c : goal.After-taken g) → length (map bare c.self.inside.buffer.messages ++ entries c.self.inside.waiters) ≡ c.in-Some.count
moved-long g c =
    let now = c.self.inside in
    rw (c.in-Some.ensures.1, c.len.ensures.len, c.senders_len.ensures) (line-long now.capacity now.buffer.messages now.waiters c.self.invariant.side c.self.invariant.within)

pub returns-in_err-reserve-clause-room : goal.returns-in_err-reserve-clause-room
returns-in_err-reserve-clause-room g c = rw (← c.self.view_is, refused-long g c) c.reserve.ensures.enough

pub returns-in_err-reserve-clause-memory : goal.returns-in_err-reserve-clause-memory
returns-in_err-reserve-clause-memory g c = rw (← c.self.view_is, refused-long g c) (λ _. c.in_err-reserve.ensures.refused.1)

pub invariant_of-self : goal.invariant_of-self
invariant_of-self g c =
    let now = c.self.inside in
    let sound = c.self.invariant in
    rw (c.move_into.ensures.left, c.taken.ensures.left) (record {
      side = side-drained now.capacity now.buffer.messages now.waiters sound.side sound.within;
      rises = rises-drained now.waiters now.next sound.rises;
      within = none-within now.capacity;
      room = sound.room;
    })

pub returns-clause-step : goal.returns-clause-step
returns-clause-step g c =
    let now = c.self.inside in
    rw (← c.self.view_is, c.taken.ensures.ended, c.taken.ensures.left, c.move_into.ensures.left) (drains now.capacity now.senders now.receivers now.next now.buffer.messages now.waiters c.self.invariant.side c.self.invariant.within)

pub returns-clause-moved : goal.returns-clause-moved
returns-clause-moved g c =
    let now = c.self.inside in
    rw (← c.self.view_is, line-messages now.capacity now.buffer.messages now.waiters c.self.invariant.side c.self.invariant.within, c.taken.ensures.moved, c.move_into.ensures.moved, c.reserve.ensures.items, append_assoc) refl

pub returns-clause-count : goal.returns-clause-count
returns-clause-count g c = rw (← c.self.view_is, moved-long g c) refl

pub returns-clause-room : goal.returns-clause-room
returns-clause-room g c = rw (← c.self.view_is, moved-long g c, c.taken.ensures.capacity, c.move_into.ensures.capacity) c.reserve.ensures.enough

pub returns-then-self-eq0-clause-receiver : goal.returns-then-self-eq0-clause-receiver
returns-then-self-eq0-clause-receiver g c = search rules

pub returns-then-self-eq0-clause-memory : goal.returns-then-self-eq0-clause-memory
returns-then-self-eq0-clause-memory g c = search rules

-- more than a word can count is more than any vector has room for
pub returns-in_default-clause-memory : goal.returns-in_default-clause-memory
returns-in_default-clause-memory g c =
    let now = c.self.inside in
    let long = line-long now.capacity now.buffer.messages now.waiters c.self.invariant.side c.self.invariant.within in
    rw (← c.self.view_is, long, ← c.len.ensures.len, ← c.senders_len.ensures) (λ _. omega (arith, c.in_default.ensures, c.args.into.now.small))
