use Rattle.kanal_script.proofs.Common.{subst, sym, ◌∙◌, IsUtf8}
use Rattle.kanal_script.proofs.Words.{cut_off, word_utf8}
use Rattle.kanal_script.proofs.parser.Parser.word.Goals as goal

pub returns-in-Ok-clause-read : goal.returns-in-Ok-clause-read
returns-in-Ok-clause-read c = λ w s word end is. let there = cut_off c.args.self.now.rest.now w s word end is in (
  c.in-Ok.ensures.cases.0 ∙ c.split_at.ensures.front ∙ c.word_len.ensures.word ∙ there.0,
  c.split_at.ensures.back ∙ c.word_len.ensures.after ∙ there.1,
)

pub returns-in-Err-clause-read : goal.returns-in-Err-clause-read
returns-in-Err-clause-read c = λ w s word end is.
    let there = cut_off c.args.self.now.rest.now w s word end is in
    c.in-Err.ensures.cases.0 (subst (λ xs. IsUtf8 xs) (sym (c.split_at.ensures.front ∙ c.word_len.ensures.word ∙ there.0)) (word_utf8 w word))
