-- The endpoints of all constraints as they stand in the frame's tables. Taken apart by the counts of all constraints, or as pairs where there
-- are none, they are the endpoints of the frame's constraints, one list each.
use Rattle.std.proofs.Common.{ℕ, zero, suc, ◌+◌, ◌*◌, ◌≤◌, ◌<◌, ◌≡◌, refl, sym, ap, ap₂, ◌∙◌, true, List, [], ◌∷◌, ◌++◌, map, arith, length, get_or, take, drop, replicate, length-append, length-drop}
use Rattle.std.proofs.Math.ListN.{get_or-map}
use Rattle.std.proofs.Math.Seq.{take-append-le, drop-append-le}
use Rattle.lists.proofs.Laws.{by_cases, and_both, all_append, no_length}
use Rattle.lists.proofs.Ranges.{map-append}
use Rattle.lists.proofs.Sums.{sum_append}
use Rattle.frame.specs.Frames.{Constraint, constraints, constraint_at, constraints_of, counted_of, nothing, counted, counts_known, end_count}
use Rattle.frame.specs.Questions.{asked}
use Rattle.frame.specs.Files.{second, count_m, count_j, manifolds_in, joint_ends_in, counts_in, live_in, decode, file_questions}
use Rattle.frame.specs.Decodes.{all_counts}
use Rattle.frame.proofs.Files.{manifold_ends_long, ends-second_long, all_counts-first, all_counts-second, joints_of-counts, file-counts, constraint-count}
use Rattle.groups.specs.Groups.{pair_at, pairs_of, counted_parts}
use Rattle.groups.proofs.Pairs.{pairs_from-at, pairs_append}
use Rattle.groups.proofs.Counts.{parts_long}
use Rattle.frame_tables.proofs.Tables.{no_counts}

-- ---- lists by counts

parts-append : (xs ys bs cs : List ℕ) → end_count xs ≡ length bs → counted_parts (xs ++ ys) (bs ++ cs) ≡ counted_parts xs bs ++ counted_parts ys cs
parts-append [] ys bs cs h = ap (λ (l : List ℕ). counted_parts ys (l ++ cs)) (no_length bs (sym h))
parts-append (x ∷ xs) ys bs cs h =
    let k : x ≤ length bs = omega arith in
    rw (take-append-le x bs cs k, drop-append-le x bs cs k)
    (ap (λ (l : List (List ℕ)). take x bs ∷ l) (parts-append xs ys (drop x bs) cs (omega (arith, length-drop x bs))))

-- pairs are lists of two each
twos_long : (n : ℕ) → end_count (replicate n 2) ≡ 2 * n
twos_long zero = refl
twos_long (suc n) = omega (arith, twos_long n)

twos_known : (n : ℕ) → counts_known (replicate n 2) ≡ true
twos_known zero = refl
twos_known (suc n) = twos_known n

parts_of_pairs : (n : ℕ) (es : List ℕ) → length es ≡ 2 * n → counted_parts (replicate n 2) es ≡ pairs_of es
parts_of_pairs zero [] h = refl
parts_of_pairs zero (a ∷ es) h = absurd (omega arith)
parts_of_pairs (suc n) [] h = absurd (omega arith)
parts_of_pairs (suc n) (a ∷ []) h = absurd (omega arith)
parts_of_pairs (suc n) (a ∷ b ∷ es) h = ap (λ (l : List (List ℕ)). (a ∷ b ∷ []) ∷ l) (parts_of_pairs n es (omega arith))

-- ---- the endpoints of constraints

abbrev ends_of : Constraint → List ℕ
ends_of c = c.ends

ends_pairs : (ps es : List ℕ) → map ends_of (constraints_of ps es) ≡ pairs_of ps
ends_pairs [] es = refl
ends_pairs (a ∷ []) es = refl
ends_pairs (a ∷ b ∷ r) [] = ap (λ (l : List (List ℕ)). (a ∷ b ∷ []) ∷ l) (ends_pairs r [])
ends_pairs (a ∷ b ∷ r) (e ∷ es) = ap (λ (l : List (List ℕ)). (a ∷ b ∷ []) ∷ l) (ends_pairs r es)

ends-counted : (cs bs es : List ℕ) → map ends_of (counted_of cs bs es) ≡ counted_parts cs bs
ends-counted [] bs es = refl
ends-counted (c ∷ cs) bs [] = ap (λ (l : List (List ℕ)). take c bs ∷ l) (ends-counted cs (drop c bs) [])
ends-counted (c ∷ cs) bs (e ∷ es) = ap (λ (l : List (List ℕ)). take c bs ∷ l) (ends-counted cs (drop c bs) es)

module _ (bs : List ℕ) where
  -- the frame's table of endpoints
  abbrev pub all_ends : List ℕ
  all_ends = manifolds_in bs ++ joint_ends_in bs

  pub ends_long : length all_ends ≡ 2 * count_m bs + length (joint_ends_in bs)
  ends_long = omega (arith, length-append (manifolds_in bs) (joint_ends_in bs), manifold_ends_long bs)

  abbrev each : List (List ℕ)
  each = map ends_of (constraints (decode bs))

  in_parts : each ≡ pairs_of (manifolds_in bs) ++ map ends_of (decode bs).joints
  unfolding decode
  in_parts = map-append ends_of (constraints_of (manifolds_in bs) []) (decode bs).joints ∙ rw (ends_pairs (manifolds_in bs) []) refl

  -- ---- without counts

  module _ (z : length (all_counts bs) ≡ 0) where
    pub pairs_long : length all_ends ≡ 2 * (count_m bs + count_j bs)
    pairs_long = omega (arith, ends_long, (no_counts bs z).1)

    pairs_each : each ≡ pairs_of all_ends
    unfolding decode
    pairs_each = in_parts ∙ rw ((no_counts bs z).0, ends_pairs (joint_ends_in bs) (live_in bs)) (sym (pairs_append (count_m bs) (manifolds_in bs) (joint_ends_in bs) (manifold_ends_long bs)))

    pub pair_ends : (n : ℕ) → n < length (constraints (decode bs)) → pair_at all_ends n ≡ (constraint_at (decode bs) n).ends
    unfolding constraint_at
    pair_ends n h =
        sym (pairs_from-at n all_ends (omega (arith, pairs_long, constraint-count bs)))
        ∙ ap (λ (l : List (List ℕ)). get_or l n []) (sym pairs_each)
        ∙ get_or-map ends_of (constraints (decode bs)) n nothing

  -- ---- with counts

  module _ (v : second bs ≡ true) where
    pub counts_whole : end_count (all_counts bs) ≡ length all_ends
    counts_whole = rw (all_counts-second bs v) (omega (arith, sum_append (λ c. c) (replicate (count_m bs) 2) (counts_in bs), twos_long (count_m bs), ends_long, ends-second_long bs v))

    parts-each : each ≡ counted_parts (all_counts bs) all_ends
    parts-each =
        in_parts
        ∙ ap (λ (cs : List Constraint). pairs_of (manifolds_in bs) ++ map ends_of cs) (joints_of-counts bs v)
        ∙ ap₂ (λ (x y : List (List ℕ)). x ++ y) (sym (parts_of_pairs (count_m bs) (manifolds_in bs) (manifold_ends_long bs))) (ends-counted (counts_in bs) (joint_ends_in bs) (live_in bs))
        ∙ sym (parts-append (replicate (count_m bs) 2) (counts_in bs) (manifolds_in bs) (joint_ends_in bs) (omega (arith, twos_long (count_m bs), manifold_ends_long bs)))
        ∙ ap (λ (cs : List ℕ). counted_parts cs all_ends) (sym (all_counts-second bs v))

    pub part-ends : (n : ℕ) → get_or (counted_parts (all_counts bs) all_ends) n [] ≡ (constraint_at (decode bs) n).ends
    unfolding constraint_at
    part-ends n = ap (λ (l : List (List ℕ)). get_or l n []) (sym parts-each) ∙ get_or-map ends_of (constraints (decode bs)) n nothing

    pub part-count : (n : ℕ) → get_or (all_counts bs) n 0 ≡ length (constraint_at (decode bs) n).ends
    part-count n =
        ap (λ (l : List ℕ). get_or l n 0) (sym (parts_long (all_counts bs) all_ends (omega (arith, counts_whole))))
        ∙ get_or-map length (counted_parts (all_counts bs) all_ends) n []
        ∙ ap length (part-ends n)

  -- the counts are two to four
  pub all-known : asked (file_questions bs) ≡ 0 → counts_known (all_counts bs) ≡ true
  all-known e = by_cases (second bs)
      (λ v. rw (all_counts-second bs v) (all_append counted (replicate (count_m bs) 2) (counts_in bs) ∙ and_both (counts_known (replicate (count_m bs) 2)) (counts_known (counts_in bs)) (twos_known (count_m bs)) (file-counts bs e)))
      (λ v. rw (all_counts-first bs v) refl)
