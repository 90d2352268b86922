-- Constraints as parts of the endpoint list: pairs, or each from one bound up to another.
use Rattle.std.specs.Prelude.{ℕ, ◌+◌, ◌-◌, ◌*◌, ◌≤◌, ◌<◌, ◌≡◌, cond, List, map, eqb, length, get_or, take, drop}
use Rattle.lists.specs.Basics.{range}

-- the part of a table from the bound at place i up to that at place j
abbrev pub cut : List ℕ → List ℕ → ℕ → ℕ → List ℕ
cut table bounds i j = take (get_or bounds j 0 - get_or bounds i 0) (drop (get_or bounds i 0) table)

-- both bounds are there and lie in order inside the table
pub record Cut (table bounds : List ℕ) (i j : ℕ) : Type 0 where
  pub low : i < length bounds
  pub high : j < length bounds
  pub order : get_or bounds i 0 ≤ get_or bounds j 0
  pub inside : get_or bounds j 0 ≤ length table

-- the endpoints of constraint r: a pair if there are no bounds, else between its two bounds
abbrev pub part_at : List ℕ → List ℕ → ℕ → List ℕ
part_at bounds es r = cond (eqb (length bounds) 0) (take 2 (drop (2 * r) es)) (cut es bounds (2 * r) (2 * r + 1))

-- the first n constraints
unfoldable pub parts_at : ℕ → List ℕ → List ℕ → List (List ℕ)
parts_at n bounds es = map (part_at bounds es) (range n)

-- the endpoints of constraint r are there
pub record Present (es bounds : List ℕ) (r : ℕ) : Type 0 where
  pub pair : length bounds ≡ 0 → 2 * r + 2 ≤ length es
  pub part : (length bounds ≡ 0 → ⊥) → Cut es bounds (2 * r) (2 * r + 1)

-- those of the first n constraints are
abbrev pub Bounded : ℕ → List ℕ → List ℕ → Type 0
Bounded n bounds es = (r : ℕ) → r < n → Present es bounds r
