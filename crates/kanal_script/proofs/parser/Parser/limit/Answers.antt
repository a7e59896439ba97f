use Rattle.kanal_script.proofs.Common.{refl, limit_word}
use Rattle.kanal_script.proofs.Words.{limit_is_word, no_limit}
use Rattle.kanal_script.proofs.parser.Parser.limit.Goals as goal

pub returns-in_err-word-clause-read : goal.returns-in_err-word-clause-read
returns-in_err-word-clause-read c = λ capacity s fits end is. absurd (c.in_err-word.ensures.read (limit_word capacity) s (limit_is_word capacity fits) end is)

pub returns-in_err-number-in_default-clause-read : goal.returns-in_err-number-in_default-clause-read
returns-in_err-number-in_default-clause-read c = λ capacity s fits end is.
    let there = c.in_ok-word.ensures.read (limit_word capacity) s (limit_is_word capacity fits) end is in
    absurd (no_limit c.in_ok-word.word.now capacity fits there.0 c.in_default.not-unbounded (c.in_err-number-in_default.ensures.none refl))

pub returns-in-unbounded-clause-read : goal.returns-in-unbounded-clause-read
returns-in-unbounded-clause-read c = λ capacity s fits end is. (refl, (c.in_ok-word.ensures.read (limit_word capacity) s (limit_is_word capacity fits) end is).1)

pub returns-in_ok-number-in_default-clause-read : goal.returns-in_ok-number-in_default-clause-read
returns-in_ok-number-in_default-clause-read c = λ capacity s fits end is. (refl, (c.in_ok-word.ensures.read (limit_word capacity) s (limit_is_word capacity fits) end is).1)
