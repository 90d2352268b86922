-- Constraints that have a count each. Taken apart by their own lengths, lists that stand one after another are themselves, whatever stands
-- behind them; and the parts by counts have these counts as lengths.
use Rattle.std.proofs.Common.{ℕ, ◌≤◌, ◌≡◌, refl, ap₂, List, [], ◌∷◌, ◌++◌, map, append_assoc, arith, length, drop, length-drop, length-take-le}
use Rattle.std.proofs.Math.Seq.{take-append_seam, drop-append_seam}
use Rattle.lists.specs.Basics.{sum_of, join_map}
use Rattle.groups.specs.Groups.{counted_parts}

pub parts_apart : (cs : List (List ℕ)) (rest : List ℕ) → counted_parts (map length cs) (join_map (λ c. c) cs ++ rest) ≡ cs
parts_apart [] rest = refl
parts_apart (c ∷ cs) rest =
    let behind = join_map (λ d. d) cs ++ rest in
    rw (append_assoc c (join_map (λ d. d) cs) rest, take-append_seam c behind, drop-append_seam c behind, parts_apart cs rest)

pub parts_long : (counts bs : List ℕ) → sum_of (λ c. c) counts ≤ length bs → map length (counted_parts counts bs) ≡ counts
parts_long [] bs h = refl
parts_long (c ∷ counts) bs h =
    ap₂ (λ (x : ℕ) (xs : List ℕ). x ∷ xs) (length-take-le c bs (omega arith)) (parts_long counts (drop c bs) (omega (arith, length-drop c bs)))
