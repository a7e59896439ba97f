use Rattle.kanal_script.proofs.Words.{IsCutTo}
use Rattle.kanal_script.proofs.parser.word_len.Given as goal

-- no separator was seen so far
abbrev pub invariant-loop-place : goal.invariant-loop-place
invariant-loop-place l = IsCutTo l.place l.bytes
