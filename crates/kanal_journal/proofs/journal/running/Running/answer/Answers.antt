use Rattle.kanal_journal.proofs.Common.{◌≡◌, ◌+◌, ◌≤◌, [], length, arith, refl, tickets, under, line_of, Running}
use Rattle.kanal_journal.proofs.Numbering.{numbered-count, numbered-more}
use Rattle.kanal_journal.proofs.Noting.{nobody-below, answered-counts, within-next}
use Rattle.kanal_journal.proofs.journal.running.Running.answer.Goals as goal

pub answer-made-requires-clause-few : goal.answer-made-requires-clause-few
answer-made-requires-clause-few g c =
    let now = c.args.self.now in
    (omega (arith, c.requires.within.senders, c.requires.room.tickets, now.tickets.small), omega (arith, c.requires.within.receivers, c.requires.room.tickets, now.tickets.small))

pub answer-made-requires-clause-room : goal.answer-made-requires-clause-room
answer-made-requires-clause-room g c =
    let now = c.args.self.now in
    omega (arith, c.requires.within.given, c.requires.room.tickets, numbered-count 0 now.tickets.items now.core.next c.requires.within.tickets.numbered, now.tickets.ok.0)

pub answer-made-requires-clause-drains : goal.answer-made-requires-clause-drains
answer-made-requires-clause-drains g c =
    omega (arith, c.requires.within.drains, c.requires.room.drained, c.args.self.now.drained.ok.0)

pub note-requires-clause-settled : goal.note-requires-clause-settled
note-requires-clause-settled g c =
    let now = c.args.self.now in
    let below : tickets (under now.core.capacity (line_of now.core).line) ≡ [] = nobody-below now.core.capacity (line_of now.core).line now.core.buffer _ refl c.holds.ensures.full in
    let counts = answered-counts now.handles (line_of now.core) (line_of c.answer-made.new.core) c.args.event now.drained.items c.answer-made.new.drained.items c.answer-made.result below c.answer-made.ensures.answered in
    let more = numbered-more now.tickets.items c.answer-made.new.tickets.items now.core.next c.answer-made.new.core.next c.requires.within.tickets.numbered c.answer-made.ensures.given.numbered (omega (arith, c.answer-made.ensures.one, now.tickets.ok.0, c.answer-made.new.tickets.ok.0)) in
    omega (arith, counts.0, more, c.requires.within.waiting, c.requires.room.settled, now.settled.ok.0)

pub note-requires-clause-cleared : goal.note-requires-clause-cleared
note-requires-clause-cleared g c =
    let now = c.args.self.now in
    let below : tickets (under now.core.capacity (line_of now.core).line) ≡ [] = nobody-below now.core.capacity (line_of now.core).line now.core.buffer _ refl c.holds.ensures.full in
    let counts = answered-counts now.handles (line_of now.core) (line_of c.answer-made.new.core) c.args.event now.drained.items c.answer-made.new.drained.items c.answer-made.result below c.answer-made.ensures.answered in
    omega (arith, counts.2, c.requires.within.clears, c.requires.room.cleared, now.cleared.ok.0)

pub returns-clause-within : goal.returns-clause-within
returns-clause-within g c =
    let now = c.args.self.now in
    let made = c.answer-made in
    let below : tickets (under now.core.capacity (line_of now.core).line) ≡ [] = nobody-below now.core.capacity (line_of now.core).line now.core.buffer _ refl c.holds.ensures.full in
    let one : length made.new.tickets.items ≤ length now.tickets.items + 1 = omega (arith, made.ensures.one, now.tickets.ok.0, made.new.tickets.ok.0) in
    let next : Running g.row.T.Denot = record { core = made.new.core; tickets = made.new.tickets; handles = made.new.handles; settled = c.note.new.settlements; drained = made.new.drained; cleared = c.note.new.clearings } in
    within-next c.args.number now next c.args.event made.result below c.requires.within made.ensures.answered made.ensures.handles made.ensures.given one c.note.ensures.settled c.note.ensures.cleared
