-- What the positions of constraints and the size of the largest group need: constraints without a gap, starts that do not fall; and the
-- bounds of constraints that have a count each.
use Rattle.std.specs.Prelude.{ℕ, suc, ◌+◌, ◌-◌, ◌*◌, ◌≤◌, ◌<◌, ◌≡◌, cond, List, eqb, length, get_or, take}
use Rattle.lists.specs.Basics.{max_of, sum_of, range, join_map}
use Rattle.parts.specs.Parts.{part_at}

-- where the endpoints of constraint r start in the list
abbrev pub start_at : List ℕ → ℕ → ℕ
start_at bounds r = cond (eqb (length bounds) 0) (2 * r) (get_or bounds (2 * r) 0)

-- the endpoints of n constraints fill the list, constraint after constraint, without a gap
pub record Gapless (n : ℕ) (bounds es : List ℕ) : Type 0 where
  pub starts : (r : ℕ) → r < n → start_at bounds r ≡ length (join_map (part_at bounds es) (range r))
  pub whole : length es ≡ length (join_map (part_at bounds es) (range n))

-- no bound is above the next
abbrev pub Ordered : List ℕ → Type 0
Ordered bounds = (k : ℕ) → suc k < length bounds → get_or bounds k 0 ≤ get_or bounds (suc k) 0

-- the largest distance from one bound to the next
unfoldable pub widest : List ℕ → ℕ
widest bounds = max_of (λ k. get_or bounds (suc k) 0 - get_or bounds k 0) (range (length bounds - 1))

-- how many endpoints the first r constraints have
abbrev pub ends_before : List ℕ → ℕ → ℕ
ends_before counts r = sum_of (λ c. c) (take r counts)

-- the bounds of constraints with these counts, one after another: each starts behind those before it, and has its count
pub record BoundsOf (counts bounds : List ℕ) : Type 0 where
  pub starts : (r : ℕ) → r < length counts → get_or bounds (2 * r) 0 ≡ ends_before counts r
  pub ends : (r : ℕ) → r < length counts → get_or bounds (2 * r + 1) 0 ≡ ends_before counts (r + 1)
