-- The tickets that were given, and their numbers.
use Rattle.kanal_journal.proofs.Common.{◌≡◌, ℕ, ◌+◌, ◌≤◌, List, [], ◌∷◌, ◌++◌, length, sym, ap, ◌∙◌, arith, Ticket, AreNumbered}

pub numbered-last : (first : ℕ) (ts : List Ticket) (t : Ticket) (next : ℕ) → t.number ≡ next → AreNumbered first ts next → AreNumbered first (ts ++ t ∷ []) (next + 1)
numbered-last first [] t next e a = (e ∙ sym a, ap (λ k. k + 1) a)
numbered-last first (u ∷ ts) t next e a = (a.0, numbered-last (first + 1) ts t next e a.1)

pub numbered-count : (first : ℕ) (ts : List Ticket) (next : ℕ) → AreNumbered first ts next → first + length ts ≡ next
numbered-count first [] next a = omega (arith, a)
numbered-count first (t ∷ ts) next a = omega (arith, numbered-count (first + 1) ts next a.1)

-- a list that is longer by one at most has given one more ticket at most
pub numbered-more : (old new : List Ticket) (a b : ℕ) → AreNumbered 0 old a → AreNumbered 0 new b → length new ≤ length old + 1 → b ≤ a + 1
numbered-more old new a b before after h = omega (arith, numbered-count 0 old a before, numbered-count 0 new b after, h)
