use Rattle.kanal_script.proofs.Common.{true≢false, sym, subst, capacity_words, EndsLine}
use Rattle.kanal_script.proofs.Lines.{line_end, line_word}
use Rattle.kanal_script.proofs.parser.Parser.capacity_line.Goals as goal

pub returns-in_default-clause-unreadable : goal.returns-in_default-clause-unreadable
returns-in_default-clause-unreadable c = λ err capacity rest fits to.
    let end = line_end c.args.self.now.rest.now (capacity_words capacity) rest to in
    true≢false (sym (c.in_default.ensures.read capacity end.0 fits (line_word end.0 end.2) end.1).0)

pub returns-then-not-end_line-clause-unreadable : goal.returns-then-not-end_line-clause-unreadable
returns-then-not-end_line-clause-unreadable c = λ err capacity rest fits to.
    let end = line_end c.args.self.now.rest.now (capacity_words capacity) rest to in
    let left = (c.in-Some.ensures.read capacity end.0 fits (line_word end.0 end.2) end.1).1 in
    true≢false (sym (c.if-not-end_line.ensures.read (subst (λ xs. EndsLine xs) (sym left) end.2)))
