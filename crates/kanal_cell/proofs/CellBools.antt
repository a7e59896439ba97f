-- Facts about Bools, by trying all values, and about the bits of a word.
pub use Rattle.std.specs.Cmp.{first_so as and_left, second_so as and_right}
use Rattle.kanal_cell.proofs.Common.{◌≡◌, Bool, true, false, not, ◌&&◌, ◌||◌, cond, true≢false, refl, sym, ap, subst, Bits, implies, is_within}

abbrev pub iff : Bool → Bool → Bool
iff a b = cond a b (not b)

abbrev pub all : (Bool → Bool) → Bool
all f = f true && f false

pub both : (a b : Bool) → a ≡ true → b ≡ true → a && b ≡ true
both a b e f = subst (λ x. x && b ≡ true) (sym e) f

pub iff_eq : (a b : Bool) → iff a b ≡ true → a ≡ b
iff_eq true true e = refl
iff_eq true false e = sym e
iff_eq false true e = e
iff_eq false false e = refl

pub at : (f : Bool → Bool) → all f ≡ true → (b : Bool) → f b ≡ true
at f e true = and_left (f true) (f false) e
at f e false = and_right (f true) (f false) e

pub by_implies : (a b : Bool) → implies a b ≡ true → a ≡ true → b ≡ true
by_implies true b e _ = e
by_implies false b e f = absurd (true≢false (sym f))

pub implied : (a b : Bool) → (a ≡ true → b ≡ true) → implies a b ≡ true
implied true b h = h refl
implied false b h = refl

abbrev pub six : (Bool → Bool → Bool → Bool → Bool → Bool → Bool) → Bool
six p = all (λ a. all (λ b. all (λ c. all (λ d. all (λ e. all (λ f. p a b c d e f))))))

pub follows : (p q : Bool → Bool → Bool → Bool → Bool → Bool → Bool) → six (λ a b c d e f. implies (p a b c d e f) (q a b c d e f)) ≡ true → (a b c d e f : Bool) → p a b c d e f ≡ true → q a b c d e f ≡ true
follows p q t a b c d e f = by_implies (p a b c d e f) (q a b c d e f)
    (at (λ f. implies (p a b c d e f) (q a b c d e f)) (at (λ e. all (λ f. implies (p a b c d e f) (q a b c d e f))) (at (λ d. all (λ e. all (λ f. implies (p a b c d e f) (q a b c d e f)))) (at (λ c. all (λ d. all (λ e. all (λ f. implies (p a b c d e f) (q a b c d e f))))) (at (λ b. all (λ c. all (λ d. all (λ e. all (λ f. implies (p a b c d e f) (q a b c d e f)))))) (at (λ a. all (λ b. all (λ c. all (λ d. all (λ e. all (λ f. implies (p a b c d e f) (q a b c d e f))))))) t a) b) c) d) e) f)

pub bool_case : {X : Type 0} → (b : Bool) → (b ≡ true → X) → (b ≡ false → X) → X
bool_case true y n = y refl
bool_case false y n = n refl

pub either : (a b : Bool) {X : Type 0} → a || b ≡ true → (a ≡ true → X) → (b ≡ true → X) → X
either true b e f g = f refl
either false b e f g = g e

pub or_left : (a b : Bool) → a ≡ true → a || b ≡ true
or_left a b e = subst (λ v. v || b ≡ true) (sym e) refl

pub or_right : (a b : Bool) → b ≡ true → a || b ≡ true
or_right true b e = refl
or_right false b e = e

pub or_off_left : (a b : Bool) → a || b ≡ false → a ≡ false
or_off_left true b e = e
or_off_left false b e = refl

pub or_off_right : (a b : Bool) → a || b ≡ false → b ≡ false
or_off_right true b e = absurd (true≢false e)
or_off_right false b e = e

pub iff_same : (b c : Bool) → b ≡ c → iff b c ≡ true
iff_same true true e = refl
iff_same true false e = sym e
iff_same false true e = e
iff_same false false e = refl

pub not_true : (b : Bool) → not b ≡ true → b ≡ false
not_true true e = absurd (true≢false (sym e))
not_true false e = refl

pub and_false : (b : Bool) → b && false ≡ false
and_false true = refl
and_false false = refl

pub false_not : (b : Bool) → b ≡ false → not b ≡ true
false_not b e = ap not e

pub same_bool : (a b : Bool) → implies a b && implies b a ≡ true → a ≡ b
same_bool true true e = refl
same_bool true false e = sym e
same_bool false true e = e
same_bool false false e = refl

-- bits that only grow
pub implies_trans : (a b c : Bool) → implies a b ≡ true → implies b c ≡ true → implies a c ≡ true
implies_trans true b c e f = by_implies b c f e
implies_trans false b c e f = refl

pub within_all : (f g : Bits) → implies f.sleeping g.sleeping ≡ true → implies f.ended g.ended ≡ true → implies f.left g.left ≡ true → is_within f g ≡ true
within_all f g a b c = both (implies f.sleeping g.sleeping && implies f.ended g.ended) (implies f.left g.left) (both (implies f.sleeping g.sleeping) (implies f.ended g.ended) a b) c

pub within_parts : (f g : Bits) → is_within f g ≡ true → (implies f.sleeping g.sleeping ≡ true) × (implies f.ended g.ended ≡ true) × (implies f.left g.left ≡ true)
within_parts f g e = let p = and_left (implies f.sleeping g.sleeping && implies f.ended g.ended) (implies f.left g.left) e in
    (and_left (implies f.sleeping g.sleeping) (implies f.ended g.ended) p, and_right (implies f.sleeping g.sleeping) (implies f.ended g.ended) p, and_right (implies f.sleeping g.sleeping && implies f.ended g.ended) (implies f.left g.left) e)

pub within_trans : (f g h : Bits) → is_within f g ≡ true → is_within g h ≡ true → is_within f h ≡ true
within_trans f g h a b = let p = within_parts f g a in let q = within_parts g h b in
    within_all f h (implies_trans f.sleeping g.sleeping h.sleeping p.0 q.0) (implies_trans f.ended g.ended h.ended p.1 q.1) (implies_trans f.left g.left h.left p.2 q.2)
