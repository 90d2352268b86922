-- Sets of bodies, by the links of a table of parents, and two ways to make two sets one: under the lower of their numbers, and by weight.
use Rattle.std.specs.Prelude.{ℕ, zero, suc, min, max, ◌||◌, cond, List, eqb, ltb, length, get_or}
use Rattle.lists.specs.Basics.{count, range}

-- ---- links

-- where a body's link leads; past the table's end, to itself
abbrev pub link : List ℕ → ℕ → ℕ
link p b = get_or p b b

-- n links on from b
abbrev pub follow : List ℕ → ℕ → ℕ → ℕ
follow p zero b = b
follow p (suc n) b = follow p n (link p b)

-- where the links of b end: in a table of n places a way that ends has fewer than n links
unfoldable pub root_of : List ℕ → ℕ → ℕ
root_of p b = follow p (length p) b

-- how many of the first n links from b lead on
abbrev pub steps : List ℕ → ℕ → ℕ → ℕ
steps p zero b = 0
steps p (suc n) b = cond (eqb (link p b) b) 0 (suc (steps p n (link p b)))

-- how many links lead from b to its root
unfoldable pub links_of : List ℕ → ℕ → ℕ
links_of p b = steps p (length p) b

-- ---- sets, each body with its number, the same in all of a set

-- the larger of p and q becomes the smaller, and any other number stays
abbrev pub relabel : ℕ → ℕ → ℕ → ℕ
relabel p q r = cond (eqb r (max p q)) (min p q) r

-- the sets of a and b become one, under the lower number
abbrev pub merge : (ℕ → ℕ) → ℕ → ℕ → ℕ → ℕ
merge low a b = let p = low a in let q = low b in λ x. relabel p q (low x)

-- ---- sets by weight, each body with its root, among nb bodies

-- how many bodies the set of root r has
unfoldable pub size_in : ℕ → (ℕ → ℕ) → ℕ → ℕ
size_in nb root r = count (λ (y : ℕ). eqb (root y) r) (range nb)

-- of the roots p and q of sets of m and n bodies: that of the larger set; on equal sizes the lower root
abbrev pub winner_of : ℕ → ℕ → ℕ → ℕ → ℕ
winner_of m n p q = cond (ltb m n) q (cond (ltb n m) p (min p q))

-- of the roots p and q of two sets: the one that stays a root
unfoldable pub winner : ℕ → (ℕ → ℕ) → ℕ → ℕ → ℕ
winner nb root p q = winner_of (size_in nb root p) (size_in nb root q) p q

-- the sets of a and b become one, under the winner of their roots; where they are one, nothing changes
abbrev pub hang : ℕ → (ℕ → ℕ) → ℕ → ℕ → ℕ → ℕ
hang nb root a b = let p = root a in let q = root b in λ x. cond (eqb (root x) p || eqb (root x) q) (winner nb root p q) (root x)
