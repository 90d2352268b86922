-- The lookup of positions of a plan with counts hands back what its tables were made of, whatever stands behind them: the positions of a
-- constraint are its list.
use Rattle.std.proofs.Common.{ℕ, ◌≤◌, ◌<◌, ◌≡◌, refl, sym, ap, ◌∙◌, true, cond, List, [], ◌∷◌, ◌++◌, map, arith, ltb, length, get_or, length-append, take_at, le-leb}
use mathlib.Core.List.{map-map}
use Rattle.lists.specs.Basics.{range, join_map}
use Rattle.lists.proofs.Sums.{sum_map}
use Rattle.lists.proofs.Ranges.{length-join_map, length-map-range, map-range-at}
use Rattle.frame.specs.Frames.{counts_known, end_count}
use Rattle.groups.specs.Groups.{counted_parts, flatten}
use Rattle.groups.proofs.Counts.{parts_apart}
use Rattle.multi_coloring.specs.Counts.{count_read, counts_read, multi_positions_refusal, positions_in}
use Rattle.multi_coloring.proofs.Lookups.{read-known}

-- lists one after another
pub joined : {A B : Type 0} (g : B → List A) (xs : List B) → join_map (λ (l : List A). l) (map g xs) ≡ join_map g xs
joined g [] = refl
joined {A} g (x ∷ xs) = ap (λ (l : List A). g x ++ l) (joined g xs)

module _ (g : ℕ → List ℕ) (n : ℕ) (counts x y : List ℕ) (sizes : counts ≡ map (λ r. length (g r)) (range n)) (known : counts_known counts ≡ true) where
  counts-read : counts_read n (counts ++ x) ≡ counts
  counts-read = ap (map count_read) (take_at counts x n (ap length sizes ∙ length-map-range (λ r. length (g r)) n)) ∙ read-known counts known

  counts_sum : end_count counts ≡ length (flatten g n)
  unfolding flatten
  counts_sum = ap end_count sizes ∙ sum_map (λ c. c) (λ r. length (g r)) (range n) ∙ sym (length-join_map g (range n))

  -- the questions: 12 past the constraints
  pub places-asked : (r : ℕ) → n ≤ 8192 → multi_positions_refusal n (counts ++ x) (flatten g n ++ y) r ≡ cond (ltb r n) 0 12
  unfolding multi_positions_refusal
  places-asked r few =
      rw (
        counts-read,
        le-leb n 8192 few,
        le-leb n (length (counts ++ x)) (omega (arith, length-append counts x, ap length sizes, length-map-range (λ r. length (g r)) n)),
        le-leb (end_count counts) (length (flatten g n ++ y)) (omega (arith, length-append (flatten g n) y, counts_sum)),
      )

  -- and the positions
  pub places_found : (r : ℕ) → r < n → positions_in n (counts ++ x) (flatten g n ++ y) r ≡ g r
  unfolding flatten
  places_found r h =
      let lists = map g (range n) in
      let long : map length lists ≡ counts = map-map length g (range n) ∙ sym sizes in
      ap (λ (l : List ℕ). get_or (counted_parts l (flatten g n ++ y)) r []) (counts-read ∙ sym long)
      ∙ ap (λ (l : List ℕ). get_or (counted_parts (map length lists) (l ++ y)) r []) (sym (joined g (range n)))
      ∙ ap (λ (l : List (List ℕ)). get_or l r []) (parts_apart lists y)
      ∙ map-range-at g [] n r h
