-- The largest of the parts passed; no bound is above the next, so no difference is below 0. What the iterator has left are the last bounds.
use Rattle.std.proofs.Common.{ℕ, suc, ◌-◌, ◌≤◌, ◌≡◌, List, length, get_or, drop}
use Rattle.std.specs.Slice.Iter.{windows_rest, windows_size}
use Rattle.lists.specs.Basics.{max_of, range}
use Rattle.parts.proofs.largest_part.Given as goal

-- the distance from bound k to the next
abbrev pub width : List ℕ → ℕ → ℕ
width bounds k = get_or bounds (suc k) 0 - get_or bounds k 0

-- of the bounds, `rest` are left, and the parts before them are passed
pub record Passed (bounds rest : List ℕ) (size largest : ℕ) : Type 0 where
  pub two : size ≡ 2
  pub short : length rest ≤ length bounds
  pub last : length bounds - length rest ≤ length bounds - 1
  pub left : rest ≡ drop (length bounds - length rest) bounds
  pub largest_is : largest ≡ max_of (width bounds) (range (length bounds - length rest))

abbrev pub invariant-loop-pair : goal.invariant-loop-pair
invariant-loop-pair l = Passed l.bounds (windows_rest l.pair-iterator) (windows_size l.pair-iterator) l.largest
