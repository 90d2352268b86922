-- The parts one by one; without bounds they are the pairs.
use Rattle.std.proofs.Common.{ℕ, zero, suc, ◌+◌, ◌*◌, ◌≤◌, ◌<◌, ◌≡◌, refl, ap, ◌∙◌, true, List, [], ◌∷◌, arith, add-one, ltb, length, get_or, take, drop, drop-cons, ltb-true}
use Rattle.lists.specs.Basics.{all, range}
use Rattle.lists.proofs.Laws.{map_ext_in, all_in, get_or-mem}
use Rattle.lists.proofs.Ranges.{map_shift, length-map-range, map-range-at}
use Rattle.groups.specs.Groups.{pair_at, pairs_of}
use Rattle.parts.specs.Parts.{part_at, parts_at, Bounded}

module _ (n : ℕ) (bounds es : List ℕ) where
  pub parts-length : length (parts_at n bounds es) ≡ n
  unfolding parts_at
  parts-length = length-map-range (part_at bounds es) n

  pub parts-at : (r : ℕ) → r < n → get_or (parts_at n bounds es) r [] ≡ part_at bounds es r
  unfolding parts_at
  parts-at r h = map-range-at (part_at bounds es) [] n r h

pub parts_pairs : (n : ℕ) (es : List ℕ) → length es ≡ 2 * n → parts_at n [] es ≡ pairs_of es
unfolding parts_at
parts_pairs zero [] l = refl
parts_pairs (suc n) [] l = absurd (omega arith)
parts_pairs n (a ∷ []) l = absurd (omega arith)
parts_pairs zero (a ∷ b ∷ es) l = absurd (omega arith)
parts_pairs (suc n) (a ∷ b ∷ es) l =
    ap (λ (t : List (List ℕ)). (a ∷ b ∷ []) ∷ t)
    (map_shift (part_at [] (a ∷ b ∷ es)) 0 n
    ∙ map_ext_in (λ r. part_at [] (a ∷ b ∷ es) (suc r)) (part_at [] es) (range n) (λ r h. let e : 2 * suc r ≡ suc (suc (2 * r)) = omega arith in rw e)
    ∙ parts_pairs n es (omega arith))

pub pair_is : (r : ℕ) (es : List ℕ) → 2 * r + 2 ≤ length es → take 2 (drop (2 * r) es) ≡ pair_at es r
pair_is r es h =
    let first : 2 * r < length es = omega arith in
    let second : suc (2 * r) < length es = omega arith in
    rw (drop-cons es (2 * r) 0, drop-cons es (suc (2 * r)) 0, add-one)

pub pairs_bounded : (n : ℕ) (es : List ℕ) → 2 * n ≤ length es → Bounded n [] es
pairs_bounded n es l r h = record { pair = λ e. omega arith; part = λ e. absurd (e refl) }

-- of members that are below n each is
pub member_low : (n : ℕ) (ms : List ℕ) (i : ℕ) → i < length ms → all (λ r. ltb r n) ms ≡ true → get_or ms i 0 < n
member_low n ms i l h = ltb-true (get_or ms i 0) n (all_in (λ r. ltb r n) (get_or ms i 0) ms (get_or-mem ms i l) h)
