-- Which words are numbers.
use Rattle.kanal_script.proofs.Common.{◌≡◌, ℕ, ◌<◌, ◌^◌, List, [], ◌∷◌, decimal, Result, Ok, Err, Option, Some, IfSome, IsNone, ◌≢◌, sym, refl, inl, inr, ◌+◌, subst, arith, ParsesUnsigned, AllDigits, digits_value, cases_lt, IsNumeralModel, numerals_by_value, tells_digits, parse_plain, decimal-digits_value, parse-decimal, first_decimal, decimal_digit, IsPlain}
use Rattle.std.specs.Result.{result_ok}
use Rattle.std.proofs.lemmas.Result.{OkIff-at_ok}

own : IsNumeralModel (AllDigits 10) (digits_value 10)
own = numerals_by_value _ tells_digits

-- a plain word that is read as a number is what that number prints
pub plain_value : {E : Type 0} (word : List ℕ) (r : Result ℕ E) (n : ℕ) → IsPlain word → ParsesUnsigned 64 10 word r → r ≡ Ok n → word ≡ decimal n
plain_value word r n plain parses e =
    let read = OkIff-at_ok r _ _ n (parse_plain own 64 word r parses plain.0) e in
    rw read.1 (sym (decimal-digits_value own word read.0.0 read.0.1 plain.1 read.0.2))

-- a plain word that is read at all is what its number prints
pub plain_read : {E : Type 0} (word : List ℕ) (r : Result ℕ E) (o : Option ℕ) → IsPlain word → ParsesUnsigned 64 10 word r → o ≡ result_ok r → IfSome o (λ n. word ≡ decimal n)
plain_read {E} word (Ok n) o plain parses e = rw e (plain_value {E = E} word (Ok n) n plain parses refl)
plain_read word (Err d) o plain parses e = rw e tt

-- a word that isn't read is no number's
pub unread : {E : Type 0} (word : List ℕ) (r : Result ℕ E) (o : Option ℕ) → ParsesUnsigned 64 10 word r → o ≡ result_ok r → IsNone o → (n : ℕ) → n < 2 ^ 64 → word ≢ decimal n
unread word r o parses e none n small is =
    let read : r ≡ Ok n = parse-decimal 64 n word r small small is parses in
    let none' : IsNone (result_ok r) = subst (λ (p : Option ℕ). IsNone p) e none in
    let none'' : IsNone (Some n) = subst (λ (p : Result ℕ _). IsNone (result_ok p)) read none' in
    (cc)

-- a number prints a plain word
pub plain-decimal : (n : ℕ) → n < 2 ^ 64 → IsPlain (decimal n)
plain-decimal n small = elim (cases_lt 0 n) [ inl h ↦ (omega (arith, first_decimal n h small), λ e. absurd (omega (arith, first_decimal n h small))) | inr h ↦ (let e : n ≡ 0 = omega arith in let p = decimal_digit n (omega arith) in subst (λ (xs : List ℕ). IsPlain xs) (sym (subst (λ (k : ℕ). decimal n ≡ (48 + k) ∷ []) e p)) ((λ e. absurd (omega (arith, e))), λ e. refl)) ]
