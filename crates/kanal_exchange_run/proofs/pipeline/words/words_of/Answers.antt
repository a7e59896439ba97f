use Rattle.std.specs.Str.Iter.{chars_rest}
use Rattle.std.proofs.Common.{rules, ◌≡◌, IsUtf8, chars, ap, subst, sym, ◌∙◌, ◌+◌, ◌%◌, ◌^◌}
use Rattle.std.proofs.lemmas.Str.{IsUtf8-past_char, chars_past_char}
use Rattle.std.proofs.StrCases.{chars_of_empty}
use Rattle.kanal_exchange_run.proofs.Counting.{counted_all, counted_on, counts_all, words_in}
use Rattle.kanal_exchange_run.proofs.pipeline.words.words_of.Goals as goal

pub loop-character-init : goal.loop-character-init
loop-character-init c =
    let rest = chars_rest c.into_iter-character-iterator.result in
    let same : rest ≡ c.args.line.now = search rules in
    (subst IsUtf8 (sym same) c.utf8.line, counts_all c.args.line.now rest same)

pub loop-character-preserved : goal.loop-character-preserved
loop-character-preserved c =
    let held = c.loop-character.invariant in
    let parts = c.in-Some.ensures.steps.0 in
    let step = chars_past_char _ _ c.in-Some.character held.0 parts in
    let count = c.loop-character.count in
    let inside = c.loop-character.inside in (
      IsUtf8-past_char _ _ c.in-Some.character held.0 parts,
      counted_on count c.begun-count.result inside c.is_whitespace-white.result c.in-Some.character (chars (chars_rest c.next.new.self)) c.is_whitespace-white.ensures c.begun-count.ensures
          ∙ (ap (λ cs. (count + words_in inside cs) % 2 ^ 64) (sym step) ∙ held.1),
    )

pub returns : goal.returns
returns c = counted_all c.loop-character.count _ c.loop-character.inside _ (search rules) (chars_of_empty _ c.in-None.ensures.steps.0.0) c.loop-character.invariant.1
