use Rattle.std.proofs.Common.{decimal}
use Rattle.kanal_script.proofs.Words.{decimal_word, some_of}
use Rattle.kanal_script.proofs.parser.Parser.argument.Goals as goal

pub returns-in_err-next_word-clause-read : goal.returns-in_err-next_word-clause-read
returns-in_err-next_word-clause-read c = λ n s small end is. absurd (c.in_err-next_word.ensures.read (decimal n) s (decimal_word n small) end is)

pub returns-clause-read : goal.returns-clause-read
returns-clause-read c = λ n s small end is.
    let there = c.in_ok-next_word.ensures.read (decimal n) s (decimal_word n small) end is in
    (some_of c.number.result (λ none. c.number.ensures.none none n small there.0), there.1)
