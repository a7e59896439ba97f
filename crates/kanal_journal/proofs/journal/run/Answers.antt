use Rattle.kanal_journal.proofs.Common.{◌≡◌, ◌<◌, [], ◌∷◌, length, sym, ap, subst, refl, ℕ, ◌∙◌, arith, rules, length-append, map-id, line_of, IsWithinEvents, account_of}
use Rattle.std.proofs.lemmas.Iterator.Consumers.{YieldsList-end, YieldsList-turn}
use Rattle.std.proofs.lemmas.Iterator.Adapters.{YieldsList-from_vec}
use Rattle.kanal_journal.proofs.Headline.{runs-paired, runs-left, runs-whole}
use Rattle.kanal_journal.proofs.Leading.{Leads-last}
use Rattle.kanal_journal.proofs.Noting.{opened-told, same-told, same-within}
use Rattle.kanal_journal.proofs.journal.run.Goals as goal

pub loop-event-init : goal.loop-event-init
loop-event-init g c =
    let first = c.in_ok-running.running in
    let now = c.reserve.new.self in
    let within : IsWithinEvents 0 first = search rules in
    record {
      leads = ap (λ rs. account_of rs now) c.in-Ok-with_capacity.ensures.items ∙ (same-told [] first now c.reserve.ensures.same ∙ opened-told c.args.capacity first c.in_ok-running.ensures.opened);
      within = same-within 0 first now c.reserve.ensures.same within;
      count = search rules;
      room = c.in-Ok.ensures.room;
      replies = refl;
    }

pub step-requires-clause-room : goal.step-requires-clause-room
step-requires-clause-room g c =
    let now = c.loop-event.invariant in
    let h = c.into_iter-event-iterator.ensures.into_iter_gives in
    let room : length c.loop-event.yielded < length c.args.events.items = (YieldsList-turn (YieldsList-from_vec c.args.events.items h.0 (h.1 ∙ c.args.events.ok.0)) c.loop-event.yielded c.loop-event.event-iterator c.loop-event.yielded_by c.next.result c.next.new.self c.in-Some.event c.in-Some.is c.next.ensures.steps).0 in
    let steps = c.len-steps.ensures in
    record {
      tickets = omega (arith, room, now.count, now.room.tickets, steps, c.args.events.ok.0);
      settled = omega (arith, room, now.count, now.room.settled, steps, c.args.events.ok.0);
      drained = omega (arith, room, now.count, now.room.drained, steps, c.args.events.ok.0);
      cleared = omega (arith, room, now.count, now.room.cleared, steps, c.args.events.ok.0);
    }

pub step-requires-clause-replies : goal.step-requires-clause-replies
step-requires-clause-replies g c =
    let now = c.loop-event.invariant in
    let h = c.into_iter-event-iterator.ensures.into_iter_gives in
    let room : length c.loop-event.yielded < length c.args.events.items = (YieldsList-turn (YieldsList-from_vec c.args.events.items h.0 (h.1 ∙ c.args.events.ok.0)) c.loop-event.yielded c.loop-event.event-iterator c.loop-event.yielded_by c.next.result c.next.new.self c.in-Some.event c.in-Some.is c.next.ensures.steps).0 in
    omega (arith, room, now.count, now.replies, c.in-Ok-with_capacity.ensures.exact, c.len-steps.ensures, c.args.events.ok.0)

pub loop-event-preserved : goal.loop-event-preserved
loop-event-preserved g c =
    let now = c.loop-event.invariant in
    let next = c.step.ensures in
    let longer = length-append c.loop-event.yielded (c.in-Some.event ∷ []) in
    let W : ℕ → Type 0 = λ k. IsWithinEvents k c.step.new.running in
    record {
      leads = Leads-last _ _ _ _ _ now.leads next.told;
      within = subst W (omega (arith, longer, now.count, next.count)) next.within;
      count = omega (arith, longer, now.count, next.count);
      room = record {
        tickets = omega (arith, now.room.tickets, next.room.tickets);
        settled = omega (arith, now.room.settled, next.room.settled);
        drained = omega (arith, now.room.drained, next.room.drained);
        cleared = omega (arith, now.room.cleared, next.room.cleared);
      };
      replies = next.same ∙ now.replies;
    }

pub returns-clause-large : goal.returns-clause-large
returns-clause-large g c = (λ e. absurd (cc), λ h. let wrong = c.in_ok-running.ensures.large.1 h in absurd (cc))

pub returns-clause-runs : goal.returns-clause-runs
returns-clause-runs g c =
    let h = c.into_iter-event-iterator.ensures.into_iter_gives in
    let whole : c.loop-event.yielded ≡ c.args.events.items = sym (map-id _) ∙ (YieldsList-end (YieldsList-from_vec c.args.events.items h.0 (h.1 ∙ c.args.events.ok.0)) c.loop-event.yielded c.loop-event.event-iterator c.loop-event.yielded_by c.next.result c.next.new.self c.in-None.is c.next.ensures.steps).0 in (
      line_of c.loop-event.running.core,
      c.loop-event.running.handles,
      rw (← whole) c.loop-event.invariant.leads,
      rw (c.move_left.ensures.items, c.in-Ok-with_capacity-2.ensures.items) c.into_messages.ensures,
    )

pub returns-clause-paired : goal.returns-clause-paired
returns-clause-paired g c =
    let last = c.loop-event.running in
    runs-paired _ _ (record { replies = c.loop-event.replies; settled = last.settled; drained = last.drained; cleared = last.cleared; left = c.move_left.new.into }) (returns-clause-runs g c)

pub returns-clause-left : goal.returns-clause-left
returns-clause-left g c =
    let last = c.loop-event.running in
    runs-left _ _ (record { replies = c.loop-event.replies; settled = last.settled; drained = last.drained; cleared = last.cleared; left = c.move_left.new.into }) (returns-clause-runs g c)

pub returns-clause-whole : goal.returns-clause-whole
returns-clause-whole g c =
    let last = c.loop-event.running in
    runs-whole _ _ (record { replies = c.loop-event.replies; settled = last.settled; drained = last.drained; cleared = last.cleared; left = c.move_left.new.into }) (returns-clause-runs g c)
