-- A walk that takes the waiters' messages out, one after another.
use Rattle.kanal_core.proofs.Common.{◌≡◌, ℕ, ◌+◌, ◌<◌, zero, suc, List, [], ◌∷◌, ◌++◌, length, drop, Option, Some, None, refl, ap, sym, ◌∙◌, arith, cons_option, Waiter, first_place, IsFree, IsHeld, TakesMessageAt, brought, emptied}
use Rattle.kanal_core.proofs.Emptying.{emptied_to}
use Rattle.kanal_core.proofs.Walks.{cut_at}

module _ {T W : Type 0} where
  -- the first n are emptied, and x is the next
  pub record Cut (n : ℕ) (xs : List (Waiter T W)) (x : Waiter T W) (rest : List (Waiter T W)) : Type 0 where
    pub front : List (Waiter T W)
    pub now : emptied_to n xs ≡ front ++ x ∷ rest
    pub next : emptied_to (suc n) xs ≡ front ++ emptied x ∷ rest

  cut : (n : ℕ) (xs : List (Waiter T W)) (x : Waiter T W) (rest : List (Waiter T W)) → drop n xs ≡ x ∷ rest → Cut n xs x rest
  cut zero [] x rest e = absurd (cc)
  cut zero (y ∷ ys) x rest e =
      let is : y ≡ x = cc (e) in
      let more : ys ≡ rest = cc (e) in
      record { front = []; now = e; next = ap (λ (z : Waiter T W). emptied z ∷ ys) is ∙ ap (λ zs. emptied x ∷ zs) more }
  cut (suc n) [] x rest e = absurd (cc)
  cut (suc n) (y ∷ ys) x rest e =
      let c = cut n ys x rest e in
      record { front = emptied y ∷ c.front; now = ap (λ zs. emptied y ∷ zs) c.now; next = ap (λ zs. emptied y ∷ zs) c.next }

  not_free : (p : ℕ) (a : List (Waiter T W)) (x : Waiter T W) (b : List (Waiter T W)) → x.ticket.place ≡ p → IsFree p (a ++ x ∷ b) → ⊥
  not_free p [] x b at free = free.0 (sym at)
  not_free p (y ∷ a) x b at free = not_free p a x b at free.1

  -- around the only waiter at a place a list is cut in one way
  pub record SameCut (a : List (Waiter T W)) (x : Waiter T W) (b c : List (Waiter T W)) (y : Waiter T W) (d : List (Waiter T W)) : Type 0 where
    pub front : a ≡ c
    pub is : x ≡ y
    pub back : b ≡ d

  same_cut : (p : ℕ) (a : List (Waiter T W)) (x : Waiter T W) (b c : List (Waiter T W)) (y : Waiter T W) (d : List (Waiter T W)) → a ++ x ∷ b ≡ c ++ y ∷ d → x.ticket.place ≡ p → y.ticket.place ≡ p → IsFree p a → IsFree p b → SameCut a x b c y d
  same_cut p [] x b [] y d same at_x at_y free_a free_b = record { front = refl; is = cc; back = cc }
  same_cut p [] x b (z ∷ c) y d same at_x at_y free_a free_b =
      let e : b ≡ c ++ y ∷ d = cc in
      absurd (not_free p c y d at_y (rw e at free_b))
  same_cut p (z ∷ a) x b [] y d same at_x at_y free_a free_b =
      let e : z ≡ y = cc in
      absurd (free_a.0 (sym at_y ∙ ap (λ (w : Waiter T W). w.ticket.place) (sym e)))
  same_cut p (z ∷ a) x b (u ∷ c) y d same at_x at_y free_a free_b =
      let e : z ≡ u = cc in
      let rest = same_cut p a x b c y d (cc) at_x at_y free_a.1 free_b in
      record { front = ap (λ (w : Waiter T W). w ∷ a) e ∙ ap (λ ws. u ∷ ws) rest.front; is = rest.is; back = rest.back }

  -- what stands at the walk's place is there
  pub held_at : (n place : ℕ) (xs : List (Waiter T W)) → Some place ≡ first_place (drop n xs) → IsHeld place (emptied_to n xs)
  held_at n place xs at =
      let x = cut_at xs n place at in
      let c = cut n xs x.0 (drop (suc n) xs) x.2 in
      λ free. not_free place c.front x.0 (drop (suc n) xs) x.1 (rw c.now at free)

  -- one more is emptied, and its message is the first of those that are left
  pub record TakesNext (n : ℕ) (xs : List (Waiter T W)) (m : Option T) (after : Option ℕ) (new : List (Waiter T W)) : Type 0 where
    pub left : new ≡ emptied_to (n + 1) xs
    pub at : after ≡ first_place (drop (n + 1) xs)
    pub first : brought (drop n xs) ≡ cons_option m (brought (drop (n + 1) xs))

  pub takes_next : (n place : ℕ) (xs : List (Waiter T W)) (m : Option T) (after : Option ℕ) (new : List (Waiter T W)) → Some place ≡ first_place (drop n xs) → TakesMessageAt place (emptied_to n xs) m after new → TakesNext n xs m after new
  takes_next n place xs m after new at takes =
      let x = cut_at xs n place at in
      let rest = drop (suc n) xs in
      let c = cut n xs x.0 rest x.2 in
      let one = same_cut place takes.front takes.waiter takes.back c.front x.0 rest (sym takes.was ∙ c.now) takes.place_is x.1 takes.free_before takes.free_behind in
      let more : suc n ≡ n + 1 = omega arith in
      record {
        left = takes.left ∙ ap (λ (a : List (Waiter T W)). a ++ emptied takes.waiter ∷ takes.back) one.front ∙ ap (λ (w : Waiter T W). c.front ++ emptied w ∷ takes.back) one.is ∙ ap (λ (b : List (Waiter T W)). c.front ++ emptied x.0 ∷ b) one.back ∙ sym c.next ∙ ap (λ k. emptied_to k xs) more;
        at = takes.behind ∙ ap (λ (b : List (Waiter T W)). first_place b) one.back ∙ ap (λ k. first_place (drop k xs)) more;
        first = ap (λ (b : List (Waiter T W)). brought b) x.2 ∙ ap (λ (w : Waiter T W). cons_option w.message (brought rest)) (sym one.is) ∙ ap (λ o. cons_option o (brought rest)) (sym takes.message) ∙ ap (λ k. cons_option m (brought (drop k xs))) more;
      }

  -- while waiters are left the walk is at a place
  pub walked_all : (n : ℕ) (xs : List (Waiter T W)) → n < length xs → None ≡ first_place (drop n xs) → ⊥
  walked_all n [] within none = absurd (omega (arith, within))
  walked_all zero (x ∷ xs) within none = cc
  walked_all (suc n) (x ∷ xs) within none = walked_all n xs (omega (arith, within)) none
