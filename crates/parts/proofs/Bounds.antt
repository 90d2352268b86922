-- Constraints that have a count each: how many endpoints those before one have, the bounds one after another, and the parts between them,
-- which are the constraints by counts. They fill the endpoint list without a gap; of no constraint there are no bounds and no endpoints.
use Rattle.std.proofs.Common.{ℕ, zero, suc, ◌+◌, ◌-◌, ◌*◌, ◌≤◌, ◌<◌, ◌≡◌, refl, sym, ap, ◌∙◌, List, [], ◌∷◌, arith, add-one, eqb, length, get_or, set, take, drop, length-set, length-drop, length-take-le, get_or-set_same, get_or-set_other, drop-drop, ext_get_or, eqb-true, ne_eqb}
use Rattle.std.proofs.lemmas.Bool.{eqb-false}
use Rattle.lists.specs.Basics.{sum_of}
use Rattle.lists.proofs.Laws.{by_cases}
use Rattle.groups.specs.Groups.{counted_parts, flatten}
use Rattle.groups.proofs.Tables.{flatten-zero, start-suc}
use Rattle.parts.specs.Parts.{part_at, parts_at, Bounded}
use Rattle.parts.specs.Steps.{Gapless, ends_before, BoundsOf}
use Rattle.parts.proofs.Parts.{parts-length, parts-at}

-- ---- how many endpoints those before a constraint have
pub ends_more : (counts : List ℕ) (r : ℕ) → r < length counts → ends_before counts (r + 1) ≡ ends_before counts r + get_or counts r 0
ends_more [] r h = absurd (omega arith)
ends_more (c ∷ counts) zero h = omega arith
ends_more (c ∷ counts) (suc r) h = rw add-one (omega (arith, rw add-one at (ends_more counts r (omega arith))))

pub ends_up : (counts : List ℕ) (r n : ℕ) → r ≤ n → ends_before counts r ≤ ends_before counts n
ends_up counts zero n h = omega arith
ends_up counts (suc r) zero h = absurd (omega arith)
ends_up [] (suc r) (suc n) h = omega arith
ends_up (c ∷ counts) (suc r) (suc n) h = omega (arith, ends_up counts r n (omega arith))

pub ends-all : (counts : List ℕ) → ends_before counts (length counts) ≡ sum_of (λ c. c) counts
ends-all [] = refl
ends-all (c ∷ counts) = omega (arith, ends-all counts)

-- ---- the bounds of the first n constraints; one constraint more
pub record BoundsUpTo (counts bounds : List ℕ) (n : ℕ) : Type 0 where
  pub starts : (r : ℕ) → r < n → get_or bounds (2 * r) 0 ≡ ends_before counts r
  pub ends : (r : ℕ) → r < n → get_or bounds (2 * r + 1) 0 ≡ ends_before counts (r + 1)

pub bounds_more : (counts bounds : List ℕ) (n a b : ℕ) → 2 * n + 1 < length bounds → a ≡ ends_before counts n → b ≡ ends_before counts (n + 1) → BoundsUpTo counts bounds n → BoundsUpTo counts (set (set bounds (2 * n) a) (2 * n + 1) b) (n + 1)
bounds_more counts bounds n a b l p q v =
    record {
      starts = λ r h.
          get_or-set_other (set bounds (2 * n) a) (2 * n + 1) (2 * r) b 0 (λ e. omega arith)
          ∙ by_cases (eqb r n)
          (λ e. rw (eqb-true r n e) (get_or-set_same bounds (2 * n) a 0 (omega arith) ∙ p))
          (λ e. let ne = eqb-false r n e in get_or-set_other bounds (2 * n) (2 * r) a 0 (λ z. ne (omega arith)) ∙ v.starts r (omega arith));
      ends = λ r h. by_cases (eqb r n)
          (λ e. rw (eqb-true r n e) (get_or-set_same (set bounds (2 * n) a) (2 * n + 1) b 0 (omega (arith, length-set bounds (2 * n) a)) ∙ q))
          (λ e.
          let ne = eqb-false r n e in
          get_or-set_other (set bounds (2 * n) a) (2 * n + 1) (2 * r + 1) b 0 (λ z. ne (omega arith))
          ∙ get_or-set_other bounds (2 * n) (2 * r + 1) a 0 (λ z. omega arith)
          ∙ v.ends r (omega arith));
    }

-- ---- the parts
pub counted-length : (counts es : List ℕ) → length (counted_parts counts es) ≡ length counts
counted-length [] es = refl
counted-length (c ∷ counts) es = ap suc (counted-length counts (drop c es))

pub counted-at : (counts es : List ℕ) (r : ℕ) → r < length counts → take (get_or counts r 0) (drop (ends_before counts r) es) ≡ get_or (counted_parts counts es) r []
counted-at [] es r h = absurd (omega arith)
counted-at (c ∷ counts) es zero h = refl
counted-at (c ∷ counts) es (suc r) h = rw (← drop-drop (ends_before counts r) c es) (counted-at counts (drop c es) r (omega arith))

module _ {counts bounds : List ℕ} (b : BoundsOf counts bounds) (l : length bounds ≡ 2 * length counts) where
  -- in any table; one that is too short has less in its last parts
  pub part-counted : (table : List ℕ) (r : ℕ) → r < length counts → part_at bounds table r ≡ get_or (counted_parts counts table) r []
  part-counted table r h =
      let many : ends_before counts (r + 1) - ends_before counts r ≡ get_or counts r 0 = omega (arith, ends_more counts r h) in
      rw (ne_eqb (length bounds) 0 (λ e. omega arith), b.starts r h, b.ends r h, many) (counted-at counts table r h)

  pub parts-counted : (table : List ℕ) → parts_at (length counts) bounds table ≡ counted_parts counts table
  parts-counted table =
      ext_get_or [] (parts_at (length counts) bounds table) (counted_parts counts table) (parts-length (length counts) bounds table ∙ sym (counted-length counts table))
      (λ r h. let m : r < length counts = omega (arith, parts-length (length counts) bounds table) in parts-at (length counts) bounds table r m ∙ part-counted table r m)

  -- a table with room for all endpoints
  module _ (table : List ℕ) (room : sum_of (λ c. c) counts ≤ length table) where
    pub counted_bounded : Bounded (length counts) bounds table
    counted_bounded r h =
        record {
          pair = λ e. absurd (omega arith);
          part = λ e. record {
            low = omega arith;
            high = omega arith;
            order = omega (arith, b.starts r h, b.ends r h, ends_up counts r (r + 1) (omega arith));
            inside = omega (arith, b.ends r h, ends-all counts, ends_up counts (r + 1) (length counts) (omega arith));
          };
        }

    part-length : (r : ℕ) → r < length counts → length (part_at bounds table r) ≡ ends_before counts (r + 1) - ends_before counts r
    part-length r h =
        rw (ne_eqb (length bounds) 0 (λ e. omega arith), b.starts r h, b.ends r h)
        (length-take-le (ends_before counts (r + 1) - ends_before counts r) (drop (ends_before counts r) table)
        (omega (arith, length-drop (ends_before counts r) table, ends-all counts, ends_up counts (r + 1) (length counts) (omega arith))))

    starts-at : (r : ℕ) → r ≤ length counts → length (flatten (part_at bounds table) r) ≡ ends_before counts r
    starts-at zero h = ap length (flatten-zero (part_at bounds table))
    starts-at (suc r) h = start-suc (part_at bounds table) r ∙ rw (← (add-one r)) (omega (arith, starts-at r (omega arith), part-length r h, ends_up counts r (r + 1) (omega arith)))

  pub counted_gapless : (es : List ℕ) → sum_of (λ c. c) counts ≡ length es → Gapless (length counts) bounds es
  unfolding flatten
  counted_gapless es whole =
      let room : sum_of (λ c. c) counts ≤ length es = omega arith in
      record {
        starts = λ r h. rw (ne_eqb (length bounds) 0 (λ e. omega arith)) (b.starts r h ∙ sym (starts-at es room r (omega arith)));
        whole = sym whole ∙ sym (ends-all counts) ∙ sym (starts-at es room (length counts) (omega arith));
      }
