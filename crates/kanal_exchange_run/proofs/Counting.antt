-- The words as the loop counts them, with a flag, and what one more character adds to them.
use Rattle.std.proofs.Common.{◌≡◌, ◌+◌, ◌%◌, ◌^◌, ◌<◌, ◌&&◌, ℕ, Bool, true, false, cond, not, List, [], ◌∷◌, Option, None, Some, inl, inr, ap, refl, ◌∙◌, sym, arith}
use Rattle.std.proofs.lemmas.Bool.{cases_Bool}
use Rattle.std.specs.Char.{is_whitespace}
use Rattle.std.specs.Str.{chars}
use Rattle.kanal_exchange_run.specs.Words.{begins_word, words_behind, words_of}

-- so many words begin in these characters; whether the character before them was of a word
abbrev pub words_in : Bool → List ℕ → ℕ
words_in inside [] = 0
words_in inside (c ∷ cs) = cond (is_whitespace c) (words_in false cs) (cond inside 0 1 + words_in true cs)

-- the character is of a word
abbrev of_word : Option ℕ → Bool
of_word None = false
of_word (Some c) = not (is_whitespace c)

one-more : (inside : Bool) (c : ℕ) (cs : List ℕ) → words_in inside (c ∷ cs) ≡ cond (is_whitespace c) 0 (cond inside 0 1) + words_in (not (is_whitespace c)) cs
one-more inside c cs =
    elim (cases_Bool (is_whitespace c)) [
      | inl e ↦ rw e (omega arith)
      | inr e ↦ rw e (omega arith)
    ]

-- what a character adds, white or not, where a word goes on or not
abbrev added : Bool → Bool → ℕ
added inside white = cond white 0 (cond inside 0 1)

-- what it adds, if a word begins with it or not
abbrev one_if : Bool → ℕ
one_if begins = cond begins 1 0

behind_space : (space white : Bool) → added (not space) white ≡ one_if (space && not white)
behind_space true true = refl
behind_space true false = refl
behind_space false true = refl
behind_space false false = refl

at_start : (white : Bool) → added false white ≡ one_if (not white)
at_start true = refl
at_start false = refl

begins : (before : Option ℕ) (c : ℕ) → added (of_word before) (is_whitespace c) ≡ one_if (begins_word before c)
begins None c = at_start (is_whitespace c)
begins (Some before) c = behind_space (is_whitespace before) (is_whitespace c)

-- the flag counts the words by where they begin
flagged : (before : Option ℕ) (cs : List ℕ) → words_in (of_word before) cs ≡ words_behind before cs
flagged before [] = refl
flagged before (c ∷ cs) = one-more (of_word before) c cs ∙ (ap (λ k. k + words_in (of_word (Some c)) cs) (begins before c) ∙ ap (λ k. one_if (begins_word before c) + k) (flagged (Some c) cs))

-- at the start no word goes on
pub counts_all : (text rest : List ℕ) → rest ≡ text → (0 + words_in false (chars rest)) % 2 ^ 64 ≡ words_of text % 2 ^ 64
counts_all text rest same = let h : words_in false (chars rest) ≡ words_of text = ap (λ xs. words_in false (chars xs)) same ∙ flagged None (chars text) in omega (arith, h)

wrapped : (n b x : ℕ) → ((n + b) % 2 ^ 64 + x) % 2 ^ 64 ≡ (n + (b + x)) % 2 ^ 64
wrapped n b x = omega arith

-- a character that begins a word is counted, and the others are in the rest
pub counted_on : (n b : ℕ) (inside white : Bool) (c : ℕ) (cs : List ℕ) → white ≡ is_whitespace c → b ≡ cond white 0 (cond inside 0 1)
    → ((n + b) % 2 ^ 64 + words_in (not white) cs) % 2 ^ 64 ≡ (n + words_in inside (c ∷ cs)) % 2 ^ 64
counted_on n b inside white c cs w is =
    wrapped n b (words_in (not white) cs)
    ∙ ap (λ k. (n + k) % 2 ^ 64) (ap (λ k. k + words_in (not white) cs) is ∙ (ap (λ v. cond v 0 (cond inside 0 1) + words_in (not v) cs) w ∙ sym (one-more inside c cs)))

-- where nothing is left all are counted
pub counted_all : (n total : ℕ) (inside : Bool) (cs : List ℕ) → n < 2 ^ 64 → cs ≡ [] → (n + words_in inside cs) % 2 ^ 64 ≡ total % 2 ^ 64 → n ≡ total % 2 ^ 64
counted_all n total inside cs fits none held = let h : (n + 0) % 2 ^ 64 ≡ total % 2 ^ 64 = ap (λ xs. (n + words_in inside xs) % 2 ^ 64) (sym none) ∙ held in omega (arith, fits, h)
