-- Cutting a line into words.
use Rattle.kanal_script.proofs.Common.{◌≡◌, ◌≢◌, ℕ, ◌<◌, ◌+◌, ◌⊎◌, ◌^◌, zero, suc, decimal, codes, nat_lt, ◌&&◌, Option, Some, None, IsSome, IsNone, true, false, List, [], ◌∷◌, ◌++◌, take, drop, refl, ap, ◌∙◌, inl, inr, arith, ne_eqb, ltb-true, digit_from_value, decimal_is_IsNumeral, IsAscii, IsUtf8, AllDigits, capacity_words, is_separator, word_of, after_word, IsWord, EndsWord, FitsWord, limit_word}
use Rattle.std.specs.Cmp.{first_so, second_so}
use Rattle.std.specs.List.{list_all}
use Rattle.std.proofs.lemmas.Str.{IsUtf8-from_ascii}
use Rattle.std.proofs.lemmas.Str.Ascii.{IsAscii-nil}

-- a byte that is no separator belongs to the word
word_on : (b : ℕ) (bs : List ℕ) → is_separator b ≡ false → word_of (b ∷ bs) ≡ b ∷ word_of bs
word_on b bs e = rw e refl

after_on : (b : ℕ) (bs : List ℕ) → is_separator b ≡ false → after_word (b ∷ bs) ≡ after_word bs
after_on b bs e = rw e refl

-- and at a separator the word ends
word_end : (b : ℕ) (bs : List ℕ) → is_separator b ≡ true → word_of (b ∷ bs) ≡ []
word_end b bs e = rw e refl

after_end : (b : ℕ) (bs : List ℕ) → is_separator b ≡ true → after_word (b ∷ bs) ≡ b ∷ bs
after_end b bs e = rw e refl

-- so far no separator was seen
abbrev pub IsCutTo : ℕ → List ℕ → Type 0
IsCutTo i bytes = (take i bytes ++ word_of (drop i bytes) ≡ word_of bytes) × (after_word (drop i bytes) ≡ after_word bytes)

-- what is neither a space nor a line feed is no separator,
not_separator : (b : ℕ) → b ≢ 32 → b ≢ 10 → is_separator b ≡ false
not_separator b m n = rw (ne_eqb b 32 m, ne_eqb b 10 n) refl

-- and these two are
a_separator : (b : ℕ) → (b ≡ 32) ⊎ (b ≡ 10) → is_separator b ≡ true
a_separator b (inl e) = rw e refl
a_separator b (inr e) = rw e refl

-- a word and what ends it are cut where they meet
pub cut : (w s : List ℕ) → IsWord w → EndsWord s → (word_of (w ++ s) ≡ w) × (after_word (w ++ s) ≡ s)
cut [] [] word end = (refl, refl)
cut [] (b ∷ bs) word end = let e = a_separator b end in (word_end b bs e, after_end b bs e)
cut (x ∷ w) s word end =
    let e = not_separator x word.1 word.2 in
    let rest = cut w s word.3 end in
    (word_on x (w ++ s) e ∙ ap (λ xs. x ∷ xs) rest.0, after_on x (w ++ s) e ∙ rest.1)

pub cut_off : (bytes w s : List ℕ) → IsWord w → EndsWord s → bytes ≡ w ++ s → (word_of bytes ≡ w) × (after_word bytes ≡ s)
cut_off bytes w s word end is = let there = cut w s word end in (ap word_of is ∙ there.0, ap after_word is ∙ there.1)

-- a word is text
ascii : (w : List ℕ) → IsWord w → IsAscii w
ascii [] word i = IsAscii-nil i
ascii (x ∷ w) word zero = word.0
ascii (x ∷ w) word (suc i) = ascii w word.3 i

pub word_utf8 : (w : List ℕ) → IsWord w → IsUtf8 w
word_utf8 w word = IsUtf8-from_ascii w (ascii w word)

-- digits are a word
digits_word : (ds : List ℕ) → AllDigits 10 ds → IsWord ds
digits_word [] all = tt
digits_word (d ∷ ds) all =
    let range = digit_from_value d all.0 in
    (omega (arith, range.0, range.1), (λ e. omega (arith, range.0, range.1, e)), (λ e. omega (arith, range.0, range.1, e)), digits_word ds all.1)

pub decimal_word : (n : ℕ) → n < 2 ^ 64 → IsWord (decimal n)
decimal_word n small = digits_word (decimal n) (decimal_is_IsNumeral n small).0.1

-- what isn't None is Some
pub some_of : {A : Type 0} (o : Option A) → (IsNone o → ⊥) → IsSome o
some_of None n = absurd (n refl)
some_of (Some x) n = refl

-- a word whose bytes are all between the space and the end of ASCII
pub letters : (w : List ℕ) → list_all (λ b. nat_lt 32 b && nat_lt b 128) w ≡ true → IsWord w
letters [] all = tt
letters (b ∷ bs) all =
    let here = first_so (nat_lt 32 b && nat_lt b 128) (list_all (λ b. nat_lt 32 b && nat_lt b 128) bs) all in
    let low = ltb-true 32 b (first_so (nat_lt 32 b) (nat_lt b 128) here) in
    let high = ltb-true b 128 (second_so (nat_lt 32 b) (nat_lt b 128) here) in
    (high, (λ e. omega (arith, low, e)), (λ e. omega (arith, low, e)), letters bs (second_so (nat_lt 32 b && nat_lt b 128) (list_all (λ b. nat_lt 32 b && nat_lt b 128) bs) all))

-- the words of a capacity's line
pub cap_word : IsWord (codes "cap")
cap_word = letters (codes "cap") refl

pub limit_is_word : (capacity : Option ℕ) → FitsWord capacity → IsWord (limit_word capacity)
limit_is_word None fits = letters (codes "unbounded") refl
limit_is_word (Some n) fits = decimal_word n fits

pub capacity_cut : (capacity : Option ℕ) (s : List ℕ) → capacity_words capacity ++ s ≡ codes "cap" ++ (32 ∷ (limit_word capacity ++ s))
capacity_cut None s = refl
capacity_cut (Some n) s = refl

-- what is neither the name of no limit nor a number is no limit
pub no_limit : (word : List ℕ) (capacity : Option ℕ) → FitsWord capacity → word ≡ limit_word capacity → word ≢ codes "unbounded" → ((n : ℕ) → n < 2 ^ 64 → word ≢ decimal n) → ⊥
no_limit word None fits is name number = name is
no_limit word (Some n) fits is name number = number n fits is
