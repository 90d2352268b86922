-- What the lookups and the union keep and leave: only the contracts of internal functions cite these.
use Rattle.std.specs.Prelude.{ℕ, ◌*◌, ◌^◌, ◌≤◌, ◌<◌, ◌≡◌, List, eqb, length, get_or}
use Rattle.island_sets.specs.Sets.{link, root_of, links_of, size_in}
use Rattle.island_sets.specs.declared.Found.{Found}

-- ---- the invariant of parents p and sizes s

-- a body that is no root weighs at most half of its parent; the size of a former root is the one that it had as a root
pub record Weighed (p s : List ℕ) : Type 0 where
  pub long : length s ≡ length p
  pub inside : (x : ℕ) → x < length p → link p x < length p
  pub some : (x : ℕ) → x < length p → 1 ≤ get_or s x 0
  pub most : (x : ℕ) → get_or s x 0 ≤ length p
  pub halves : (x : ℕ) → (link p x ≡ x → ⊥) → 2 * get_or s x 0 ≤ get_or s (link p x) 0

-- a root's size is its set's number of bodies
abbrev pub Told : ℕ → (ℕ → ℕ) → List ℕ → Type 0
Told nb root s = (b : ℕ) → b < nb → get_or s (root b) 0 ≡ size_in nb root (root b)

pub record Sets (p s : List ℕ) : Type 0 where
  pub few : length p ≤ 4096
  pub weighed : Weighed p s
  pub told : Told (length p) (root_of p) s

-- parents that some sizes belong to
abbrev pub Balanced : List ℕ → Type 0
Balanced p = (s : List ℕ) × Sets p s

-- ---- lookups

-- what a lookup answers: the root of b and the links that lead to it; 2 to that power is at most the number of bodies in the set
pub record LookedUp (p : List ℕ) (b : ℕ) (r : Found) : Type 0 where
  pub root : r.root ≡ root_of p b
  pub links : r.links ≡ links_of p b
  pub bound : 2 ^ r.links ≤ size_in (length p) (root_of p) (root_of p b)

-- what a lookup may change: the sets stay, and the sizes, whatever they are, belong to the parents still
pub record Shortened (p p' : List ℕ) : Type 0 where
  pub long : length p' ≡ length p
  pub roots : root_of p' ≡ root_of p
  pub sets : (s : List ℕ) → Sets p s → Sets p' s

-- ---- one and the same sets

-- g and h tell the same bodies apart
unfoldable pub SameSets : (ℕ → ℕ) → (ℕ → ℕ) → Type 0
SameSets g h = (x y : ℕ) → eqb (g x) (g y) ≡ eqb (h x) (h y)

-- low gives the lowest body of each set of root
pub record LowestOf (root low : ℕ → ℕ) : Type 0 where
  pub same : SameSets root low
  pub below : (x : ℕ) → low x ≤ x
  pub fixed : (x : ℕ) → low (low x) ≡ low x
