-- How far a count of visits rose.
use Rattle.std.specs.Prelude.{◌≡◌, ℕ, ◌+◌, ◌≤◌, Option, Some, None}

-- by at most k; a count that is idle stays idle, and no other becomes so
abbrev pub RoseByAtMost : ℕ → Option ℕ → Option ℕ → Type 0
RoseByAtMost k None new = new ≡ None
RoseByAtMost k (Some n) None = ⊥
RoseByAtMost k (Some n) (Some m) = (n ≤ m) × (m ≤ n + k)

-- one visit more, if anybody counts
abbrev pub one_visit_more : Option ℕ → Option ℕ
one_visit_more None = None
one_visit_more (Some n) = Some (n + 1)
