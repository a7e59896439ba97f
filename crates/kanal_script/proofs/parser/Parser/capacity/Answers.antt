use Rattle.kanal_script.proofs.Common.{codes, ◌∷◌, ◌++◌, ◌∙◌, inl, refl, limit_word}
use Rattle.kanal_script.proofs.Words.{cap_word, capacity_cut}
use Rattle.kanal_script.proofs.parser.Parser.capacity.Goals as goal

pub returns-in_err-word-clause-read : goal.returns-in_err-word-clause-read
returns-in_err-word-clause-read c = λ capacity s fits end is.
    absurd (c.in_err-word.ensures.read (codes "cap") (32 ∷ (limit_word capacity ++ s)) cap_word (inl refl) (is ∙ capacity_cut capacity s))

pub returns-in-cap-clause-read : goal.returns-in-cap-clause-read
returns-in-cap-clause-read c = λ capacity s fits end is.
    let name = c.in_ok-word.ensures.read (codes "cap") (32 ∷ (limit_word capacity ++ s)) cap_word (inl refl) (is ∙ capacity_cut capacity s) in
    c.limit.ensures.read capacity s fits end name.1

pub returns-in_default-clause-read : goal.returns-in_default-clause-read
returns-in_default-clause-read c = λ capacity s fits end is.
    let name = c.in_ok-word.ensures.read (codes "cap") (32 ∷ (limit_word capacity ++ s)) cap_word (inl refl) (is ∙ capacity_cut capacity s) in
    absurd (c.in_default.not-cap name.0)
