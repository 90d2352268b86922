-- A table that holds g at each place is the list of the values of g.
use Rattle.std.proofs.Common.{ℕ, arith, ◌≡◌, sym, ◌∙◌, List, map, length, get_or, ext_get_or}
use Rattle.lists.specs.Basics.{range}
use Rattle.lists.proofs.Ranges.{length-map-range, map-range-at}

pub tabled : (g : ℕ → ℕ) (l : List ℕ) (n d : ℕ) → length l ≡ n → ((x : ℕ) → get_or l x d ≡ g x) → l ≡ map g (range n)
tabled g l n d e h = ext_get_or d l (map g (range n)) (e ∙ sym (length-map-range g n)) (λ i k. h i ∙ sym (map-range-at g d n i (omega (arith, k))))
