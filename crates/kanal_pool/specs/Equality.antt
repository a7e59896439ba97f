-- How the prover finds that equal jobs have one value, where `==` is derived.
use Rattle.std.proofs.Common.{rules}
use Rattle.std.specs.Cmp.Lexicographic.{as_long, pointwise_decides}
use Rattle.std.specs.Cmp.Rules.{hashing}

-- the facts on `==` of numbers, booleans, texts, vectors, slices, arrays, and of what has these as its fields
pub ruleset equal_fields = (rules, hashing, pointwise_decides, as_long)
