use Rattle.kanal_script.proofs.Common.{◌≡◌, ◌<◌, ap, arith, inl, length, refl, rules, subst, sym, ◌∙◌, Unread as Unreadable, IsFirstFault, line, capacity_words, IsReadTo, EventsFit}
use Rattle.kanal_script.proofs.Readings.{begins_not, fit_more, goes_no_further}
use Rattle.kanal_script.proofs.Lines.{event_more, number_more, read_before}
use Rattle.kanal_script.proofs.parser.parse.Goals as goal

pub loop-parser-preserved : goal.loop-parser-preserved
loop-parser-preserved c = (
  event_more _ _ _ _ _ _ _ (grind arith) c.loop-parser.invariant.0 c.in_ok-event_line.ensures.taken c.in_ok-push.ensures.items,
  number_more _ _ _ _ _ _ _ (grind arith) c.in_ok-push.ensures.items c.loop-parser.invariant.1 c.in_ok-event_line.ensures.next,
  c.loop-parser.invariant.2,
  subst (λ xs. EventsFit xs) (sym c.in_ok-push.ensures.items) (fit_more c.loop-parser.events.items c.in_ok-event_line.field-0 c.loop-parser.invariant.3 c.in_ok-event_line.ensures.fits),
)

pub returns-in_err-capacity-clause-fault : goal.returns-in_err-capacity-clause-fault
returns-in_err-capacity-clause-fault c =
    let none = begins_not c.args.bytes.now (λ capacity rest fits to. c.in_err-capacity.ensures.unreadable refl capacity rest fits (subst (λ xs. IsReadTo xs (line (capacity_words capacity)) rest) (sym c.new-parser.ensures.rest) to)) in
    let is : c.in_err-capacity.field-0.0 ≡ Unreadable 1 = c.in_err-capacity.ensures.fault ∙ ap Unreadable c.new-parser.ensures.line in
    let first : IsFirstFault c.args.bytes.now c.in_err-capacity.field-0.0 = subst (λ e. IsFirstFault c.args.bytes.now e) (sym is) (inl refl, none) in
    search (rules, first)

pub returns-in_err-event_line-clause-fault : goal.returns-in_err-event_line-clause-fault
returns-in_err-event_line-clause-fault c =
    let i = c.loop-parser.invariant in
    let left : 0 < length c.loop-parser.parser.rest.now = grind arith in
    let none = goes_no_further c.args.bytes.now c.in_ok-capacity.capacity c.loop-parser.events.items c.loop-parser.parser.rest.now c.loop-parser.parser.line i.2 i.3 left i.0 (i.1 left) (c.in_err-event_line.ensures.unreadable refl) in
    let before = read_before c.args.bytes.now c.in_ok-capacity.capacity c.loop-parser.events.items c.loop-parser.parser.rest.now c.loop-parser.parser.line left i.0 i.1 in
    let first : IsFirstFault c.args.bytes.now c.in_err-event_line.field-0.0 = subst (λ e. IsFirstFault c.args.bytes.now e) (sym c.in_err-event_line.ensures.fault) (before, none) in
    search (rules, first)
