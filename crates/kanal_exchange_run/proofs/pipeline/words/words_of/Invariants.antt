use Rattle.std.proofs.Common.{◌≡◌, ◌%◌, ◌^◌, ◌+◌, IsUtf8, chars}
use Rattle.std.specs.Str.Iter.{chars_rest}
use Rattle.kanal_exchange_run.specs.Words.{words_of}
use Rattle.kanal_exchange_run.proofs.Counting.{words_in}
use Rattle.kanal_exchange_run.proofs.pipeline.words.words_of.Given as goal

-- the words that were counted and those that begin in the rest are all
abbrev pub invariant-loop-character : goal.invariant-loop-character
invariant-loop-character l = IsUtf8 (chars_rest l.character-iterator) × ((l.count + words_in l.inside (chars (chars_rest l.character-iterator))) % 2 ^ 64 ≡ words_of l.line % 2 ^ 64)
