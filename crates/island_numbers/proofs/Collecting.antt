-- One turn of the loop over parts; and that the parts between the bounds of counts are the parts by counts, so that what is collected are the
-- endpoints and counts of the listed constraints.
use Rattle.std.proofs.Common.{ℕ, ◌+◌, ◌*◌, ◌/◌, ◌<◌, ◌≡◌, refl, sym, ap, ◌∙◌, true, List, [], ◌∷◌, ◌++◌, map, append_assoc, arith, add-one, ltb, length, get_or, take, drop, length-append, drop-cons, eq-eqb, ne_eqb, lt-ltb, ltb-true}
use Rattle.std.proofs.Math.ListN.{length-map}
use Rattle.lists.specs.Basics.{all, mem, join_map}
use Rattle.lists.proofs.Laws.{all_in, all_intro, no_length}
use Rattle.lists.proofs.Ranges.{join_map_ext_in}
use Rattle.groups.specs.Groups.{pair_at, counted_parts}
use Rattle.parts.specs.Parts.{part_at, Bounded}
use Rattle.parts.specs.Steps.{BoundsOf}
use Rattle.parts.proofs.Parts.{pair_is}
use Rattle.parts.proofs.Bounds.{part-counted, counted_bounded}
use Rattle.island_numbers.specs.Numbers.{pairs_among, ends_among, counts_among, Collectable}

-- ---- a turn: the part of the number at place `rank` goes behind what is collected

module _ (g : ℕ → List ℕ) (ns out part : List ℕ) (rank start : ℕ) (h : rank < length ns) (room : start + length (join_map g (drop rank ns)) ≡ length out) (is : part ≡ g (get_or ns rank 0)) where
  part-first : join_map g (drop rank ns) ≡ part ++ join_map g (drop (rank + 1) ns)
  part-first = ap (join_map g) (drop-cons ns rank 0 h) ∙ rw (add-one, is)

  pub part-room : start + length part + length (join_map g (drop (rank + 1) ns)) ≡ length out
  part-room = omega (arith, room, ap length part-first, length-append part (join_map g (drop (rank + 1) ns)))

  pub part_turn : (new : List ℕ) → take (start + length part) new ≡ take start out ++ part → take start out ++ join_map g (drop rank ns) ≡ join_map g ns
      → take (start + length part) new ++ join_map g (drop (rank + 1) ns) ≡ join_map g ns
  part_turn new e v =
      ap (λ (l : List ℕ). l ++ join_map g (drop (rank + 1) ns)) e
      ∙ append_assoc (take start out) part (join_map g (drop (rank + 1) ns))
      ∙ ap (λ (l : List ℕ). take start out ++ l) (sym part-first)
      ∙ v

-- ---- what is collected

pub pairs_long : (ends ns : List ℕ) → length (pairs_among ends ns) ≡ 2 * length ns
pairs_long ends [] = refl
pairs_long ends (n ∷ ns) = omega (arith, pairs_long ends ns)

-- pairs that are there: their numbers are below half the endpoints, and their parts are the pairs
module _ (pairs ns : List ℕ) (there : all (λ n. ltb (2 * n + 1) (length pairs)) ns ≡ true) where
  pair_there : (n : ℕ) → mem n ns ≡ true → 2 * n + 1 < length pairs
  pair_there n m = ltb-true (2 * n + 1) (length pairs) (all_in (λ x. ltb (2 * x + 1) (length pairs)) n ns m there)

  pub pairs_inside : all (λ r. ltb r (length pairs / 2)) ns ≡ true
  pairs_inside = all_intro (λ r. ltb r (length pairs / 2)) ns (λ r m. lt-ltb r (length pairs / 2) (omega (arith, pair_there r m)))

  pub pairs_parts : join_map (part_at [] pairs) ns ≡ pairs_among pairs ns
  pairs_parts = join_map_ext_in (part_at [] pairs) (pair_at pairs) ns (λ n m. pair_is n pairs (omega (arith, pair_there n m)))

module _ {counts ends ns bounds island_ends island_counts : List ℕ} (c : Collectable counts ends ns bounds island_ends island_counts) where
  -- without counts
  module _ (none : length counts ≡ 0) where
    pub pairs_among_lem : pairs_among ends ns ≡ ends_among counts ends ns
    unfolding ends_among
    pairs_among_lem = rw (eq-eqb (length counts) 0 none)

    pub pairs_room : length island_ends ≡ 2 * length ns
    pairs_room = c.ends_long ∙ ap length (sym pairs_among_lem) ∙ pairs_long ends ns

    pub no_counts : island_counts ≡ counts_among counts ns
    unfolding counts_among
    no_counts = rw (eq-eqb (length counts) 0 none) (no_length island_counts (c.counts_long ∙ rw (eq-eqb (length counts) 0 none)))

  -- with counts
  module _ (some : length counts ≡ 0 → ⊥) where
    pub counts-among : map (λ (n : ℕ). get_or counts n 0) ns ≡ counts_among counts ns
    unfolding counts_among
    counts-among = rw (ne_eqb (length counts) 0 some)

    pub as_many_counts : length island_counts ≡ length ns
    as_many_counts = c.counts_long ∙ ap length (sym counts-among) ∙ length-map ns (λ (n : ℕ). get_or counts n 0)

    -- the table of bounds, filled
    module _ (filled : List ℕ) (long : length filled ≡ 2 * length counts) (b : BoundsOf counts filled) where
      pub parts-among : join_map (part_at filled ends) ns ≡ ends_among counts ends ns
      unfolding ends_among
      parts-among = rw (ne_eqb (length counts) 0 some)
          (join_map_ext_in (part_at filled ends) (λ n. get_or (counted_parts counts ends) n []) ns
          (λ n m. part-counted b long ends n (ltb-true n (length counts) (all_in (λ x. ltb x (length counts)) n ns m (c.counted some)))))

      pub parts_room : length island_ends ≡ length (join_map (part_at filled ends) ns)
      parts_room = c.ends_long ∙ ap length (sym parts-among)

      pub parts_bounded : Bounded (length counts) filled ends
      parts_bounded = counted_bounded b long ends (omega (arith, c.whole some))
