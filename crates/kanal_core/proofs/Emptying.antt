-- Messages that are taken out of waiters, one after another.
use Rattle.kanal_core.proofs.Common.{◌≡◌, ℕ, ◌≤◌, zero, suc, List, [], ◌∷◌, ◌++◌, length, map, drop, Option, Some, None, refl, ap, sym, ◌∙◌, arith, append_assoc, cons_option, Waiter, taken_by, brought, emptied, AllReceive}

module _ {T W : Type 0} where
  -- the first n of them without a message
  abbrev pub emptied_to : ℕ → List (Waiter T W) → List (Waiter T W)
  emptied_to zero xs = xs
  emptied_to (suc n) [] = []
  emptied_to (suc n) (x ∷ xs) = emptied x ∷ emptied_to n xs

  pub all-emptied : (n : ℕ) (xs : List (Waiter T W)) → length xs ≤ n → emptied_to n xs ≡ map emptied xs
  all-emptied zero [] h = refl
  all-emptied zero (x ∷ xs) h = absurd (omega (arith, h))
  all-emptied (suc n) [] h = refl
  all-emptied (suc n) (x ∷ xs) h = ap (λ ys. emptied x ∷ ys) (all-emptied n xs (omega (arith, h)))

  pub none-left : (n : ℕ) (xs : List (Waiter T W)) → length xs ≤ n → brought (drop n xs) ≡ []
  none-left zero [] h = refl
  none-left zero (x ∷ xs) h = absurd (omega (arith, h))
  none-left (suc n) [] h = refl
  none-left (suc n) (x ∷ xs) h = none-left n xs (omega (arith, h))

  -- emptied waiters bring nothing, and are told as taken
  pub emptied-receive : (xs : List (Waiter T W)) → AllReceive (map emptied xs)
  emptied-receive [] = tt
  emptied-receive (x ∷ xs) = (refl, emptied-receive xs)

  pub emptied-taken : (xs : List (Waiter T W)) → map taken_by (map emptied xs) ≡ map taken_by xs
  emptied-taken [] = refl
  emptied-taken (x ∷ xs) = ap (λ ys. taken_by x ∷ ys) (emptied-taken xs)

-- a message that a waiter brought is moved to the end, or it brought none
module _ {T : Type 0} (items new rest left all : List T) (o : Option T) (l : left ≡ cons_option o rest) (e : items ++ left ≡ all) where
  pub moved-one : (m : T) → o ≡ Some m → new ≡ items ++ m ∷ [] → new ++ rest ≡ all
  moved-one m some n = ap (λ xs. xs ++ rest) n ∙ append_assoc items (m ∷ []) rest ∙ ap (λ xs. items ++ xs) (sym (l ∙ ap (λ p. cons_option p rest) some)) ∙ e

  pub moved-none : o ≡ None → new ≡ items → new ++ rest ≡ all
  moved-none none n = ap (λ xs. xs ++ rest) n ∙ ap (λ xs. items ++ xs) (sym (l ∙ ap (λ p. cons_option p rest) none)) ∙ e
