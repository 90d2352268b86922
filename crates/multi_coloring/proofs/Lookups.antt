-- Counts as they are read. The lookup of positions: where a constraint's positions start, by the counts before it as they are read, and that they
-- end inside the table, and how they stand in four places.
use Rattle.std.proofs.Common.{ℕ, ◌+◌, ◌≤◌, ◌<◌, ◌≡◌, refl, sym, ap, ap₂, ◌∙◌, true, List, [], ◌∷◌, map, arith, length, get_or, take, drop, length-take-le, get_or-take, ◌++◌, leb, replicate, length-drop, leb-true}
use Rattle.std.proofs.Math.ListN.{length-map}
use Rattle.std.proofs.lemmas.List.{take-map, take-take}
use Rattle.lists.specs.Basics.{four}
use Rattle.lists.proofs.Laws.{and_left, and_right, get_or-map-lt, by_cases}
use Rattle.frame.specs.Frames.{counted, counts_known, end_count}
use Rattle.parts.specs.Steps.{ends_before}
use Rattle.parts.proofs.Bounds.{ends_more, ends_up, ends-all, counted-at}
use Rattle.multi_coloring.specs.Counts.{count_read, counts_read, positions_in}

-- counts of two to four are read as they are
pub read-known : (counts : List ℕ) → counts_known counts ≡ true → map count_read counts ≡ counts
read-known [] e = refl
read-known (c ∷ counts) e = ap₂ (λ (x : ℕ) (xs : List ℕ). x ∷ xs) (rw (and_left (counted c) (counts_known counts) e)) (read-known counts (and_right (counted c) (counts_known counts) e))

-- a count that is read is at most four
pub read-most : (c : ℕ) → count_read c ≤ 4
read-most c = by_cases (counted c) (λ e. rw e (leb-true c 4 (and_right (leb 2 c) (leb c 4) e))) (λ e. rw e (omega arith))

-- up to four positions, copied over four places
copied : (xs : List ℕ) → length xs ≤ 4 → xs ++ drop (length xs) (replicate 4 0) ≡ four xs
unfolding four
copied [] h = refl
copied (a ∷ []) h = refl
copied (a ∷ b ∷ []) h = refl
copied (a ∷ b ∷ d ∷ []) h = refl
copied (a ∷ b ∷ d ∷ e ∷ []) h = refl
copied (a ∷ b ∷ d ∷ e ∷ f ∷ r) h = absurd (omega arith)

pub four_copied : (xs : List ℕ) (n : ℕ) → length xs ≡ n → n ≤ 4 → xs ++ drop n (replicate 4 0) ≡ four xs
four_copied xs n l h = rw (← l) (copied xs (omega arith))

module _ (n : ℕ) (counts table : List ℕ) (room : n ≤ length counts) (there : end_count (counts_read n counts) ≤ length table) (r start count : ℕ) (h : r < n) (s : start ≡ end_count (map count_read (take r counts))) (k : count ≡ count_read (get_or counts r 0)) where
  abbrev read : List ℕ
  read = counts_read n counts

  read-length : length read ≡ n
  read-length = length-map (take n counts) count_read ∙ length-take-le n counts room

  -- the counts before, and the constraint's own
  start_is : start ≡ ends_before read r
  start_is = s ∙ ap end_count (ap (map count_read) (sym (take-take r n counts (omega arith))) ∙ sym (take-map count_read r (take n counts)))

  own_is : count ≡ get_or read r 0
  own_is = k ∙ ap count_read (sym (get_or-take n counts r 0 h)) ∙ sym (get_or-map-lt count_read (take n counts) r 0 0 (omega (arith, length-take-le n counts room)))

  -- they end inside the table
  pub end_inside : start + count ≤ length table
  end_inside = omega (arith, start_is, own_is, read-length, ends_more read r (omega (arith, read-length)), ends_up read (r + 1) (length read) (omega (arith, read-length)), ends-all read)

  -- and are the definition's
  pub positions_are : take count (drop start table) ≡ positions_in n counts table r
  positions_are = rw (own_is, start_is) (counted-at read table r (omega (arith, read-length)))

  pub count_is : count ≡ length (positions_in n counts table r)
  count_is = sym (length-take-le count (drop start table) (omega (arith, length-drop start table, end_inside))) ∙ ap length positions_are
