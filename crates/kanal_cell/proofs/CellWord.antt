-- What the word tells of its bits, and what an operation makes of them.
use Rattle.kanal_cell.proofs.Common.{◌≡◌, ℕ, Bool, true, false, true≢false, refl, sym, ap, ◌∙◌, subst, bit_or, bit_and, arith, Bits, bits, number}
use Rattle.kanal_cell.proofs.CellBools.{bool_case}

-- what a bit of the word that was found shows
pub ended_set : (s e l : Bool) → (bit_and (number (bits s e l)) 2 ≡ 0 → ⊥) → e ≡ true
ended_set s true l n = refl
ended_set true false true n = absurd (n refl)
ended_set true false false n = absurd (n refl)
ended_set false false true n = absurd (n refl)
ended_set false false false n = absurd (n refl)

pub ended_unset : (s e l : Bool) → bit_and (number (bits s e l)) 2 ≡ 0 → e ≡ false
ended_unset s false l n = refl
ended_unset true true true n = absurd (omega arith)
ended_unset true true false n = absurd (omega arith)
ended_unset false true true n = absurd (omega arith)
ended_unset false true false n = absurd (omega arith)

pub sleeping_set : (s e l : Bool) → (bit_and (number (bits s e l)) 1 ≡ 0 → ⊥) → s ≡ true
sleeping_set true e l n = refl
sleeping_set false true true n = absurd (n refl)
sleeping_set false true false n = absurd (n refl)
sleeping_set false false true n = absurd (n refl)
sleeping_set false false false n = absurd (n refl)

pub left_set : (s e l : Bool) → (bit_and (number (bits s e l)) 4 ≡ 0 → ⊥) → l ≡ true
left_set s e true n = refl
left_set true true false n = absurd (n refl)
left_set true false false n = absurd (n refl)
left_set false true false n = absurd (n refl)
left_set false false false n = absurd (n refl)

pub set_of : (f : Bits) (r : ℕ) → r ≡ number f → (bit_and r 1 ≡ 0 → ⊥) → f.sleeping ≡ true
set_of f r e n = sleeping_set f.sleeping f.ended f.left (subst (λ (x : ℕ). bit_and x 1 ≡ 0 → ⊥) e n)

pub left_of : (f : Bits) (r : ℕ) → r ≡ number f → (bit_and r 4 ≡ 0 → ⊥) → f.left ≡ true
left_of f r e n = left_set f.sleeping f.ended f.left (subst (λ (x : ℕ). bit_and x 4 ≡ 0 → ⊥) e n)

pub ended_of : (f : Bits) (r : ℕ) → r ≡ number f → (bit_and r 2 ≡ 0 → ⊥) → f.ended ≡ true
ended_of f r e n = ended_set f.sleeping f.ended f.left (subst (λ (x : ℕ). bit_and x 2 ≡ 0 → ⊥) e n)

pub sleeping_unset : (s e l : Bool) → bit_and (number (bits s e l)) 1 ≡ 0 → s ≡ false
sleeping_unset true true true n = absurd (omega arith)
sleeping_unset true true false n = absurd (omega arith)
sleeping_unset true false true n = absurd (omega arith)
sleeping_unset true false false n = absurd (omega arith)
sleeping_unset false e l n = refl

-- what an operation sets
pub or_left : (s e l : Bool) → bit_or (number (bits s e l)) 4 ≡ number (bits s e true)
or_left true true true = refl
or_left true true false = refl
or_left true false true = refl
or_left true false false = refl
or_left false true true = refl
or_left false true false = refl
or_left false false true = refl
or_left false false false = refl

pub or_ended : (s e l : Bool) → bit_or (number (bits s e l)) 2 ≡ number (bits s true l)
or_ended true true true = refl
or_ended true true false = refl
or_ended true false true = refl
or_ended true false false = refl
or_ended false true true = refl
or_ended false true false = refl
or_ended false false true = refl
or_ended false false false = refl

pub or_sleeping : (s e l : Bool) → bit_or (number (bits s e l)) 1 ≡ number (bits true e l)
or_sleeping true true true = refl
or_sleeping true true false = refl
or_sleeping true false true = refl
or_sleeping true false false = refl
or_sleeping false true true = refl
or_sleeping false true false = refl
or_sleeping false false true = refl
or_sleeping false false false = refl

-- one word tells the same of the bit
pub ended_same : (f g : Bits) → number f ≡ number g → g.ended ≡ false → f.ended ≡ false
ended_same f g same over = ended_unset f.sleeping f.ended f.left (ap (λ n. bit_and n 2) same ∙ quiet g.sleeping g.ended g.left over)
  where
    quiet : (s e l : Bool) → e ≡ false → bit_and (number (bits s e l)) 2 ≡ 0
    quiet s true l h = absurd (true≢false h)
    quiet true false true h = refl
    quiet true false false h = refl
    quiet false false true h = refl
    quiet false false false h = refl

pub ended_found : (f g : Bits) → number f ≡ number g → g.ended ≡ true → f.ended ≡ true
ended_found f g same over = bool_case f.ended (λ e. e) (λ e. absurd (true≢false (sym over ∙ ended_same g f (sym same) e)))

-- the empty word has no bit
pub left_none : (b : Bits) → number b ≡ 0 → b.left ≡ false
left_none b e = bool_case b.left (λ h. absurd (high b.sleeping b.ended b.left h e)) (λ h. h)
  where
    high : (s e l : Bool) → l ≡ true → number (bits s e l) ≡ 0 → ⊥
    high s e false h z = true≢false (sym h)
    high true true true h z = omega (arith, z)
    high true false true h z = omega (arith, z)
    high false true true h z = omega (arith, z)
    high false false true h z = omega (arith, z)
