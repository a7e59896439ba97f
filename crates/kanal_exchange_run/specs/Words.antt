-- The words of a text. A word is a run of characters without white space that goes on as far as it can, so the words are counted by where they begin.
use Rattle.std.specs.Prelude.{ℕ, ◌+◌, ◌&&◌, Bool, cond, not, List, [], ◌∷◌, Option, None, Some}
use Rattle.std.specs.Char.{is_whitespace}
use Rattle.std.specs.Str.{chars}

-- a word begins with this character: it is no white space, and before it stands nothing or white space
abbrev pub begins_word : Option ℕ → ℕ → Bool
begins_word None c = not (is_whitespace c)
begins_word (Some before) c = is_whitespace before && not (is_whitespace c)

-- so many words begin in these characters, which stand behind that one or behind nothing
abbrev pub words_behind : Option ℕ → List ℕ → ℕ
words_behind before [] = 0
words_behind before (c ∷ cs) = cond (begins_word before c) 1 0 + words_behind (Some c) cs

-- so many words has the text
abbrev pub words_of : List ℕ → ℕ
words_of text = words_behind None (chars text)
