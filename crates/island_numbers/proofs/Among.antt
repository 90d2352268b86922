-- What is collected for a list of numbers. A part of the numbers has a part of the endpoints and of the counts, as long as its counts say; and
-- for all numbers, sorted by island, all endpoints and counts are collected.
use Rattle.std.proofs.Common.{ℕ, zero, suc, ◌+◌, ◌*◌, ◌≤◌, ◌<◌, ◌≡◌, refl, sym, ap, ◌∙◌, Bool, true, List, [], ◌∷◌, ◌++◌, arith, eqb, length, get_or, take, drop, length-append, length-drop, take-append-drop, length-take-le, take_at, drop_at, take-add, eq-eqb, ne_eqb, eqb-true}
use Rattle.std.proofs.Math.ListN.{length-map}
use Rattle.std.proofs.lemmas.Bool.{eqb-false}
use Rattle.lists.specs.Basics.{one, all, sum_of, range}
use Rattle.lists.proofs.Laws.{by_cases, all_intro, sum_ext_in, range_high}
use Rattle.lists.proofs.Sums.{sum_ext, sum_join_map, sum_filter, sum_swap, sum_map, sum_get_or, collapse}
use Rattle.lists.proofs.Ranges.{join_map-append, map-append, length-join_map, all-join_map}
use Rattle.frame.specs.Frames.{end_count}
use Rattle.groups.specs.Groups.{pair_at, counted_parts, members, group_count, flatten}
use Rattle.groups.proofs.Members.{member_is, key_below, listed_all}
use Rattle.island_numbers.specs.Numbers.{keys_of, by_island, ends_among, counts_among}
use Rattle.island_numbers.proofs.Sorting.{keys_long}
use Rattle.island_numbers.proofs.Collecting.{pairs_long}

-- ---- of two lists one after another

pub ends-append : (counts ends xs ys : List ℕ) → ends_among counts ends (xs ++ ys) ≡ ends_among counts ends xs ++ ends_among counts ends ys
unfolding ends_among
ends-append counts ends xs ys = by_cases (eqb (length counts) 0)
    (λ e. rw e (join_map-append (pair_at ends) xs ys))
    (λ e. rw e (join_map-append (λ n. get_or (counted_parts counts ends) n []) xs ys))

pub counts-append : (counts xs ys : List ℕ) → counts_among counts (xs ++ ys) ≡ counts_among counts xs ++ counts_among counts ys
unfolding counts_among
counts-append counts xs ys = by_cases (eqb (length counts) 0) (λ e. rw e) (λ e. rw e (map-append (λ (n : ℕ). get_or counts n 0) xs ys))

-- ---- of n numbers from place s on

module _ (g : List ℕ → List ℕ) (more : (xs ys : List ℕ) → g (xs ++ ys) ≡ g xs ++ g ys) (ns : List ℕ) (s n : ℕ) where
  part_of : take (length (g (take n (drop s ns)))) (drop (length (g (take s ns))) (g ns)) ≡ g (take n (drop s ns))
  part_of =
      let part = g (take n (drop s ns)) in
      let after = g (drop n (drop s ns)) in
      let rest : g (drop s ns) ≡ part ++ after = ap g (sym (take-append-drop n (drop s ns))) ∙ more (take n (drop s ns)) (drop n (drop s ns)) in
      let whole : g ns ≡ g (take s ns) ++ (part ++ after) = ap g (sym (take-append-drop s ns)) ∙ more (take s ns) (drop s ns) ∙ ap (λ (l : List ℕ). g (take s ns) ++ l) rest in
      ap (λ (l : List ℕ). take (length part) (drop (length (g (take s ns))) l)) whole
      ∙ ap (take (length part)) (drop_at (g (take s ns)) (part ++ after) (length (g (take s ns))) refl)
      ∙ take_at part after (length part) refl

  part-end : length (g (take (s + n) ns)) ≡ length (g (take s ns)) + length (g (take n (drop s ns)))
  part-end = ap (λ (l : List ℕ). length (g l)) (take-add s n ns) ∙ ap length (more (take s ns) (take n (drop s ns))) ∙ length-append (g (take s ns)) (g (take n (drop s ns)))

  part_inside : length (g (take (s + n) ns)) ≤ length (g ns)
  part_inside =
      let whole : length (g ns) ≡ length (g (take (s + n) ns)) + length (g (drop (s + n) ns)) =
      ap (λ (l : List ℕ). length (g l)) (sym (take-append-drop (s + n) ns)) ∙ ap length (more (take (s + n) ns) (drop (s + n) ns)) ∙ length-append (g (take (s + n) ns)) (g (drop (s + n) ns)) in
      omega arith

module _ (counts ends ns : List ℕ) (s n : ℕ) where
  -- where its endpoints stand among those of the whole list, where they end, and that the end lies inside
  pub ends-part : take (length (ends_among counts ends (take n (drop s ns)))) (drop (length (ends_among counts ends (take s ns))) (ends_among counts ends ns)) ≡ ends_among counts ends (take n (drop s ns))
  ends-part = part_of (ends_among counts ends) (ends-append counts ends) ns s n

  pub ends-next : length (ends_among counts ends (take (s + n) ns)) ≡ length (ends_among counts ends (take s ns)) + length (ends_among counts ends (take n (drop s ns)))
  ends-next = part-end (ends_among counts ends) (ends-append counts ends) ns s n

  pub ends_inside : length (ends_among counts ends (take (s + n) ns)) ≤ length (ends_among counts ends ns)
  ends_inside = part_inside (ends_among counts ends) (ends-append counts ends) ns s n

  -- the same of its counts
  pub counts-part : take (length (counts_among counts (take n (drop s ns)))) (drop (length (counts_among counts (take s ns))) (counts_among counts ns)) ≡ counts_among counts (take n (drop s ns))
  counts-part = part_of (counts_among counts) (counts-append counts) ns s n

  pub counts-next : length (counts_among counts (take (s + n) ns)) ≡ length (counts_among counts (take s ns)) + length (counts_among counts (take n (drop s ns)))
  counts-next = part-end (counts_among counts) (counts-append counts) ns s n

  pub counts_inside : length (counts_among counts (take (s + n) ns)) ≤ length (counts_among counts ns)
  counts_inside = part_inside (counts_among counts) (counts-append counts) ns s n

-- ---- how many they are

-- without counts
module _ (counts ns : List ℕ) (none : length counts ≡ 0) where
  pub ends_of_pairs : (ends : List ℕ) → length (ends_among counts ends ns) ≡ 2 * length ns
  unfolding ends_among
  ends_of_pairs ends = rw (eq-eqb (length counts) 0 none) (pairs_long ends ns)

  pub counts_of_pairs : counts_among counts ns ≡ []
  unfolding counts_among
  counts_of_pairs = rw (eq-eqb (length counts) 0 none)

-- with counts
part_size : (counts ends : List ℕ) → end_count counts ≤ length ends → (n : ℕ) → length (get_or (counted_parts counts ends) n []) ≡ get_or counts n 0
part_size [] ends h n = refl
part_size (c ∷ counts) ends h zero = length-take-le c ends (omega arith)
part_size (c ∷ counts) ends h (suc n) = part_size counts (drop c ends) (omega (arith, length-drop c ends)) n

module _ (counts ns : List ℕ) (some : length counts ≡ 0 → ⊥) where
  pub counts_of_counted : length (counts_among counts ns) ≡ length ns
  unfolding counts_among
  counts_of_counted = rw (ne_eqb (length counts) 0 some) (length-map ns (λ (n : ℕ). get_or counts n 0))

  sum_of-counts : end_count (counts_among counts ns) ≡ sum_of (λ n. get_or counts n 0) ns
  unfolding counts_among
  sum_of-counts = rw (ne_eqb (length counts) 0 some) (sum_map (λ c. c) (λ n. get_or counts n 0) ns)

  pub ends_of-counted : (ends : List ℕ) → end_count counts ≤ length ends → length (ends_among counts ends ns) ≡ end_count (counts_among counts ns)
  unfolding ends_among
  ends_of-counted ends h = rw (ne_eqb (length counts) 0 some)
      (length-join_map (λ n. get_or (counted_parts counts ends) n []) ns
      ∙ sum_ext (λ n. length (get_or (counted_parts counts ends) n [])) (λ n. get_or counts n 0) ns (part_size counts ends h)
      ∙ sym sum_of-counts)

-- ---- all numbers, sorted by island

module _ (islands : ℕ) (labels : List ℕ) where
  abbrev keys : List ℕ
  keys = keys_of islands labels

  pub sorted_long : length (by_island islands labels) ≡ length labels
  unfolding by_island
  sorted_long = listed_all keys (group_count keys) (omega arith) ∙ keys_long islands labels

  -- what holds of each number holds of the sorted ones
  pub sorted-all : (p : ℕ → Bool) → ((n : ℕ) → n < length labels → p n ≡ true) → all p (by_island islands labels) ≡ true
  unfolding by_island flatten
  sorted-all p h =
      all-join_map p (members keys) (range (group_count keys))
      ∙ all_intro (λ k. all p (members keys k)) (range (group_count keys)) (λ k m. all_intro p (members keys k) (λ n o. h n (omega (arith, (member_is keys k n o).0, keys_long islands labels))))

  -- a sum over them is that over the numbers in order
  pub sorted_sum : (g : ℕ → ℕ) → sum_of g (by_island islands labels) ≡ sum_of g (range (length labels))
  unfolding by_island flatten members
  sorted_sum g =
      let numbers = range (length keys) in
      let groups = range (group_count keys) in
      sum_join_map g (members keys) groups
      ∙ sum_ext (λ k. sum_of g (members keys k)) (λ k. sum_of (λ r. one (eqb k (get_or keys r 0)) * g r) numbers) groups (λ k. sum_filter g (λ r. eqb k (get_or keys r 0)) numbers)
      ∙ sum_swap (λ k r. one (eqb k (get_or keys r 0)) * g r) groups numbers
      ∙ sum_ext_in (λ r. sum_of (λ k. one (eqb k (get_or keys r 0)) * g r) groups) g numbers (λ r m. collapse (λ k. g r) (get_or keys r 0) 0 (group_count keys) (omega arith) (omega (arith, key_below keys r (omega (arith, range_high r 0 (length keys) m)))))
      ∙ ap (λ (n : ℕ). sum_of g (range n)) (keys_long islands labels)

  module _ (counts ends : List ℕ) where
    pub all-counts : ((length counts ≡ 0 → ⊥) → length counts ≡ length labels) → length (counts_among counts (by_island islands labels)) ≡ length counts
    all-counts h = by_cases (eqb (length counts) 0)
        (λ e. let z = eqb-true (length counts) 0 e in ap length (counts_of_pairs counts (by_island islands labels) z) ∙ sym z)
        (λ e. let some = eqb-false (length counts) 0 e in counts_of_counted counts (by_island islands labels) some ∙ sorted_long ∙ sym (h some))

    pub all_pairs : length counts ≡ 0 → length ends ≡ 2 * length labels → length (ends_among counts ends (by_island islands labels)) ≡ length ends
    all_pairs none e = ends_of_pairs counts (by_island islands labels) none ends ∙ ap (λ (n : ℕ). 2 * n) sorted_long ∙ sym e

    pub all-ends : (length counts ≡ 0 → ⊥) → length counts ≡ length labels → end_count counts ≡ length ends → length (ends_among counts ends (by_island islands labels)) ≡ length ends
    all-ends some long e =
        ends_of-counted counts (by_island islands labels) some ends (omega arith)
        ∙ sum_of-counts counts (by_island islands labels) some
        ∙ sorted_sum (λ n. get_or counts n 0)
        ∙ ap (λ (n : ℕ). sum_of (λ r. get_or counts r 0) (range n)) (sym long)
        ∙ sum_get_or (λ c. c) 0 counts
        ∙ e
