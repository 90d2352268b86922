-- The lookups on a plan's tables hand back what the tables were made of: the part of group k is its list, and the positions of a
-- constraint are its two.
use Rattle.std.proofs.Common.{ℕ, suc, ◌+◌, ◌-◌, ◌*◌, ◌≤◌, ◌<◌, ◌≡◌, refl, sym, ap, ap₂, ◌∙◌, cond, ltb, List, [], ◌∷◌, ◌++◌, arith, add-one, length-append, length-drop, length, get_or, drop, get_or-take, get_or-drop, le-leb, lt-ltb}
use Rattle.std.proofs.Math.ListN.{get_or-append}
use Rattle.std.proofs.Math.Seq.{drop-append-le, take-append-le}
use Rattle.groups.specs.Groups.{pair_at, flatten, offsets}
use Rattle.groups.proofs.Tables.{flatten-part, flatten_twos, start-suc, start_mono, length-offsets, offsets-at}
use Rattle.plan_questions.specs.Plans.{group_part, positions_refusal}

-- a table's used places, with whatever stands behind them
module _ (g : ℕ → List ℕ) (n : ℕ) (x y : List ℕ) where
  at_offset : (k : ℕ) → k ≤ n → get_or (offsets g n ++ x) k 0 ≡ length (flatten g k)
  at_offset k h = get_or-append (offsets g n) x 0 k (omega (arith, length-offsets g n)) ∙ offsets-at g k n h

  -- the part of a group is its list
  pub group_part_lem : (k : ℕ) → k < n → group_part n (offsets g n ++ x) (flatten g n ++ y) k ≡ g k
  unfolding group_part
  group_part_lem k h =
      let a = length (flatten g k) in
      let s : get_or (offsets g n ++ x) k 0 ≡ a = at_offset k (omega arith) in
      let e : get_or (offsets g n ++ x) (k + 1) 0 ≡ a + length (g k) = ap (λ (i : ℕ). get_or (offsets g n ++ x) i 0) (add-one k) ∙ at_offset (suc k) h ∙ start-suc g k in
      let w : a + length (g k) - a ≡ length (g k) = omega arith in
      let m : a + length (g k) ≤ length (flatten g n) = omega (arith, start-suc g k, start_mono g (suc k) n h) in
      rw (
        lt-ltb k n h,
        lt-ltb (k + 1) (length (offsets g n ++ x)) (omega (arith, length-append (offsets g n) x, length-offsets g n)),
        s,
        e,
        le-leb a (a + length (g k)) (omega arith),
        le-leb (a + length (g k)) (length (flatten g n ++ y)) (omega (arith, length-append (flatten g n) y)),
        w,
        drop-append-le a (flatten g n) y (omega arith),
        take-append-le (length (g k)) (drop a (flatten g n)) y (omega (arith, length-drop a (flatten g n))),
      )
      (flatten-part g k n h)

module _ (g : ℕ → List ℕ) (n : ℕ) (two : (r : ℕ) → r < n → length (g r) ≡ 2) (y : List ℕ) where
  -- the questions of a lookup of positions: 12 past the constraints
  pub positions-asked : (r : ℕ) → n ≤ 8192 → positions_refusal n (flatten g n ++ y) r ≡ cond (ltb r n) 0 12
  unfolding positions_refusal
  positions-asked r few = rw (le-leb n 8192 few, le-leb (2 * n) (length (flatten g n ++ y)) (omega (arith, length-append (flatten g n) y, flatten_twos g n two)))

  at_piece : (r j : ℕ) → r < n → j < 2 → get_or (flatten g n ++ y) (2 * r + j) 0 ≡ get_or (g r) j 0
  at_piece r j h l =
      let e : 2 * r + j ≡ length (flatten g r) + j = omega (arith, flatten_twos g r (λ q l. two q (omega arith))) in
      get_or-append (flatten g n) y 0 (2 * r + j) (omega (arith, flatten_twos g n two))
      ∙ ap (λ (i : ℕ). get_or (flatten g n) i 0) e
      ∙ sym (get_or-drop (length (flatten g r)) (flatten g n) j 0)
      ∙ sym (get_or-take (length (g r)) (drop (length (flatten g r)) (flatten g n)) j 0 (omega (arith, two r h)))
      ∙ ap (λ (xs : List ℕ). get_or xs j 0) (flatten-part g r n h)

  -- and the two positions
  pub positions_found : (r : ℕ) → r < n → pair_at (flatten g n ++ y) r ≡ g r
  positions_found r h =
      let z : 2 * r ≡ 2 * r + 0 = omega arith in
      ap₂ (λ (a b : ℕ). a ∷ b ∷ []) (ap (λ (i : ℕ). get_or (flatten g n ++ y) i 0) z ∙ at_piece r 0 h (omega arith)) (at_piece r 1 h (omega arith)) ∙ whole (g r) (two r h)
    where
      whole : (xs : List ℕ) → length xs ≡ 2 → get_or xs 0 0 ∷ get_or xs 1 0 ∷ [] ≡ xs
      whole [] e = absurd (omega arith)
      whole (a ∷ []) e = absurd (omega arith)
      whole (a ∷ b ∷ []) e = refl
      whole (a ∷ b ∷ c ∷ cs) e = absurd (omega arith)
