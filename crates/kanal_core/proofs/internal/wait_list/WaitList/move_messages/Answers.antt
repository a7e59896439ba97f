use Rattle.kanal_core.proofs.Common.{◌+◌, ◌++◌, drop, subst, sym, ap, ◌∙◌, arith, vec_capacity, vec_len, IsHeld, TakesMessageAt, brought}
use Rattle.kanal_core.proofs.Emptying.{all-emptied, moved-none, moved-one}
use Rattle.kanal_core.proofs.Taking.{TakesNext, held_at, takes_next, walked_all}
use Rattle.kanal_core.proofs.internal.wait_list.WaitList.move_messages.Goals as goal
use Rattle.kanal_core.proofs.internal.wait_list.WaitList.move_messages.Goals.{in-Some-message, in_default-message}

pub returns-in_default-clause-left : goal.returns-in_default-clause-left
returns-in_default-clause-left g c =
    absurd (walked_all c.loop.counter c.args.self.now (rw (← c.len-end.ensures) c.loop-test.true) (sym c.in_default.is ∙ c.loop.invariant.at))

pub take_message-message-requires : goal.take_message-message-requires
take_message-message-requires g c =
    subst (IsHeld c.in-Some.place) (sym c.loop.invariant.left) (held_at c.loop.counter c.in-Some.place c.args.self.now (sym c.in-Some.is ∙ c.loop.invariant.at))

taken : (g : _) (c : goal.Joined-message g) → TakesNext c.loop.counter c.args.self.now c.take_message-message.result.0 c.take_message-message.result.1 c.take_message-message.new.self
taken g c =
    let P = λ (ws : _). TakesMessageAt c.in-Some.place ws c.take_message-message.result.0 c.take_message-message.result.1 c.take_message-message.new.self in
    takes_next c.loop.counter c.in-Some.place c.args.self.now c.take_message-message.result.0 c.take_message-message.result.1 c.take_message-message.new.self (sym c.in-Some.is ∙ c.loop.invariant.at) (subst P c.loop.invariant.left c.take_message-message.ensures)

pub loop-preserved : goal.loop-preserved
loop-preserved g c =
    let i = c.loop.counter in
    let xs = c.args.self.now in
    let kept = c.loop.invariant in
    let next = taken g c in
    elim c.match-message.branch [
      | in-Some-message w ↦
          let long = ap vec_len w.into-is ∙ w.push_reserved.ensures.len in
          let wide = ap vec_capacity w.into-is ∙ w.push_reserved.ensures.capacity in
          record {
            at = next.at;
            left = next.left;
            moved = moved-one c.loop.into.items c.match-message.into.items (brought (drop (i + 1) xs)) (brought (drop i xs)) (c.args.into.now.items ++ brought xs) c.take_message-message.result.0 next.first kept.moved w.in-Some-message.message w.in-Some-message.is (ap (λ v. v.items) w.into-is ∙ w.push_reserved.ensures.items);
            room = omega (arith, long, wide, kept.room, c.loop-test.true, c.len-end.ensures);
            capacity = wide ∙ kept.capacity;
          }
      | in_default-message w ↦
          let long = ap vec_len w.into-is in
          let wide = ap vec_capacity w.into-is in
          record {
            at = next.at;
            left = next.left;
            moved = moved-none c.loop.into.items c.match-message.into.items (brought (drop (i + 1) xs)) (brought (drop i xs)) (c.args.into.now.items ++ brought xs) c.take_message-message.result.0 next.first kept.moved w.in_default-message.is (ap (λ v. v.items) w.into-is);
            room = omega (arith, long, wide, kept.room);
            capacity = wide ∙ kept.capacity;
          }
    ]

pub returns-clause-left : goal.returns-clause-left
returns-clause-left g c = c.loop.invariant.left ∙ all-emptied c.loop.counter c.args.self.now (rw (← c.len-end.ensures) c.loop-test.false)
