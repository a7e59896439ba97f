-- What shares are worth.
use Rattle.kanal_log.proofs.Common.{◌≡◌, ◌+◌, ◌-◌, ◌≤◌, ℕ, zero, suc, refl, sym, ap, ◌∙◌, arith, Share, doubled, nothing, half, both, HasShare, IsWhole, worth}

pub doubled-sum : (n x y : ℕ) → doubled n (x + y) ≡ doubled n x + doubled n y
doubled-sum zero x y = refl
doubled-sum (suc n) x y = let r = doubled-sum n x y in omega arith

pub doubled-twice : (m n k x : ℕ) → k ≡ m + n → doubled m (doubled n x) ≡ doubled k x
doubled-twice zero n k x e = let same : n ≡ k = omega arith in ap (λ i. doubled i x) same
doubled-twice (suc m) n zero x e = absurd (omega arith)
doubled-twice (suc m) n (suc k) x e = let r = doubled-twice m n k x (omega arith) in omega arith

pub doubled-nothing : (n : ℕ) → doubled n 0 ≡ 0
doubled-nothing zero = refl
doubled-nothing (suc n) = let r = doubled-nothing n in omega arith

pub doubled-least : (n x : ℕ) → x ≤ doubled n x
doubled-least zero x = omega arith
doubled-least (suc n) x = let r = doubled-least n x in omega arith

pub doubled-most : (n x y : ℕ) → x ≤ y → doubled n x ≤ doubled n y
doubled-most zero x y le = le
doubled-most (suc n) x y le = let r = doubled-most n x y le in omega arith

pub worth-nothing : (n : ℕ) → worth n nothing ≡ 0
worth-nothing n = doubled-nothing (n - 0)

-- a share is worth as much more as the parts are smaller
pub worth-scaled : (m k n : ℕ) (s : Share) → s.halvings ≤ n → m ≡ k + n → worth m s ≡ doubled k (worth n s)
worth-scaled m k n s le e = sym (doubled-twice k (n - s.halvings) (m - s.halvings) s.count (omega arith))

-- half a share is worth half as much
pub worth-half : (n : ℕ) (s : Share) → s.halvings ≤ n → worth (suc n) (half s) ≡ worth n s
worth-half n s le = let same : suc n - (s.halvings + 1) ≡ n - s.halvings = omega arith in ap (λ i. doubled i s.count) same

-- two shares are worth together what they are worth alone
pub worth-both : (n : ℕ) (s t : Share) → s.halvings + t.halvings ≤ n → worth n (both s t) ≡ worth n s + worth n t
worth-both n s t le =
    let rest = n - (s.halvings + t.halvings) in
    doubled-sum rest (doubled t.halvings s.count) (doubled s.halvings t.count)
    ∙ (λ i. doubled-twice rest t.halvings (n - s.halvings) s.count (omega arith) i + doubled-twice rest s.halvings (n - t.halvings) t.count (omega arith) i)

-- all of the right is worth all parts
pub worth-whole : (n : ℕ) (s : Share) → IsWhole s → s.halvings ≤ n → worth n s ≡ doubled n 1
worth-whole n s e le = ap (λ x. doubled (n - s.halvings) x) e ∙ doubled-twice (n - s.halvings) s.halvings n 1 (omega arith)

-- what is worth nothing has no parts
pub worthless : (n : ℕ) (s : Share) → worth n s ≡ 0 → s.count ≡ 0
worthless n s e = let r = doubled-least (n - s.halvings) s.count in omega arith

-- where two shares together are nothing, each of them is
pub both-none : (s t : Share) → (both s t).count ≡ 0 → (s.count ≡ 0) × (t.count ≡ 0)
both-none s t e = let a = doubled-least t.halvings s.count in let b = doubled-least s.halvings t.count in (omega arith, omega arith)

-- who has a share has more than nothing with another one, too
pub both-has : (s t : Share) → HasShare t → HasShare (both s t)
both-has s t has = let least = doubled-least s.halvings t.count in omega (arith, has, least)

-- nothing adds nothing to a share
pub both-nothing : (s : Share) → both nothing s ≡ s
both-nothing s =
    let none = doubled-nothing s.halvings in
    let count : doubled s.halvings 0 + s.count ≡ s.count = omega arith in
    let halvings : 0 + s.halvings ≡ s.halvings = omega arith in
    λ i. record { count = count i; halvings = halvings i }
