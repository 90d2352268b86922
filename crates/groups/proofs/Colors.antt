-- The greedy coloring is proper and least, and no color is above the number of earlier conflicts.
use Rattle.std.proofs.Common.{ℕ, zero, suc, ◌+◌, ◌-◌, ◌*◌, ◌≤◌, ◌<◌, ◌≡◌, refl, sym, ap, ◌∙◌, Bool, true, false, ◌&&◌, List, [], ◌∷◌, ◌++◌, append_assoc, append-nil, arith, mul-le-mul_right, leb, ltb, eqb, length, get_or, length-append, eqb-true, ltb-true, ltb-false, leb-true}
use Rattle.std.proofs.Math.Nat.{max-le}
use Rattle.std.proofs.Math.ListN.{get_or-append}
use Rattle.std.proofs.Math.Seq.{get_or_at}
use Rattle.std.proofs.lemmas.Bool.{eqb-false}
use Rattle.lists.specs.Basics.{one, any, all, sum_of, max_of, count, mem}
use Rattle.lists.proofs.Sums.{sum_swap, sum_le, sum_append, sum_times, sum_zero}
use Rattle.lists.proofs.Laws.{or_left, or_cases, and_left, and_right, and_both, or_right, clashes, by_cases, not-true-false, one-any, any_append, any_in, any_out, mem_self, sum_le_in, sum_one, pigeonhole, count-few}
use Rattle.lists.proofs.Ranges.{max-append}
use Rattle.groups.specs.Groups.{group_count, flagged, clash, free_from, free, used_by, color_from, colors_of}

-- ---- the least free number
free_from-le : (d c : ℕ) (used : List ℕ) → free_from d c used ≤ c + d
unfolding free_from
free_from-le zero c used = omega arith
free_from-le (suc d) c used = by_cases (mem c used) (λ e. rw e (omega (arith, free_from-le d (suc c) used))) (λ e. rw e (omega arith))

free-le : (used : List ℕ) → free used ≤ length used
unfolding free
free-le used = omega (arith, free_from-le (length used) 0 used)

free_from-new : (d c : ℕ) (used : List ℕ) → ((i : ℕ) → i < c → mem i used ≡ true) → length used ≤ c + d → mem (free_from d c used) used ≡ false
unfolding free_from
free_from-new zero c used h l = not-true-false (mem c used) (λ e. omega (arith, pigeonhole (suc c) used (λ i p. by_cases (eqb i c) (λ q. ap (λ (k : ℕ). mem k used) (eqb-true i c q) ∙ e) (λ q. h i (omega (arith, eqb-false i c q))))))
free_from-new (suc d) c used h l =
    by_cases (mem c used)
    (λ e. rw e (free_from-new d (suc c) used (λ i p. by_cases (eqb i c) (λ q. ap (λ (k : ℕ). mem k used) (eqb-true i c q) ∙ e) (λ q. h i (omega (arith, eqb-false i c q)))) (omega arith)))
    (λ e. rw e e)

pub free_new : (used : List ℕ) → mem (free used) used ≡ false
unfolding free
free_new used = free_from-new (length used) 0 used (λ i p. absurd (omega arith)) (omega arith)

free_from-least : (d c i : ℕ) (used : List ℕ) → c ≤ i → i < free_from d c used → mem i used ≡ true
unfolding free_from
free_from-least zero c i used l h = absurd (omega arith)
free_from-least (suc d) c i used l h =
    by_cases (mem c used)
    (λ e. by_cases (eqb i c) (λ q. ap (λ (k : ℕ). mem k used) (eqb-true i c q) ∙ e) (λ q. free_from-least d (suc c) i used (omega (arith, eqb-false i c q)) (rw e at h)))
    (λ e. absurd (let h' : i < c = rw e at h in omega arith))

-- free is the least number that is not used
pub free-least : (used : List ℕ) (i : ℕ) → i < free used → mem i used ≡ true
unfolding free
free-least used i h = free_from-least (length used) 0 i used (omega arith) h

-- ---- what is used: colors of earlier conflicts
used_le : (flag : List ℕ) (done : List (List ℕ)) (colors : List ℕ) (bs : List ℕ) → length (used_by flag done colors bs) ≤ count (clash flag bs) done
unfolding used_by
used_le flag [] colors bs = omega arith
used_le flag (xs ∷ xss) [] bs = omega arith
used_le flag (xs ∷ xss) (c ∷ cs) bs = by_cases (clash flag bs xs) (λ e. rw e (omega (arith, used_le flag xss cs bs))) (λ e. rw e (omega (arith, used_le flag xss cs bs)))

used_has : (flag : List ℕ) (done : List (List ℕ)) (colors : List ℕ) (bs : List ℕ) (r : ℕ) → length colors ≡ length done → r < length done → clash flag bs (get_or done r []) ≡ true → mem (get_or colors r 0) (used_by flag done colors bs) ≡ true
unfolding used_by
used_has flag [] colors bs r l h e = absurd (omega arith)
used_has flag (xs ∷ xss) [] bs r l h e = absurd (omega arith)
used_has flag (xs ∷ xss) (c ∷ cs) bs zero l h e = rw e (mem_self c (used_by flag xss cs bs))
used_has flag (xs ∷ xss) (c ∷ cs) bs (suc r) l h e =
    let k : mem (get_or cs r 0) (used_by flag xss cs bs) ≡ true = used_has flag xss cs bs r (omega arith) (omega arith) e in
    by_cases (clash flag bs xs) (λ q. rw q (or_right (eqb (get_or cs r 0) c) (mem (get_or cs r 0) (used_by flag xss cs bs)) k)) (λ q. rw q k)

-- the conflicts with earlier constraints, where each flagged body of bs has at most m earlier ones
conflicts-le : (flag : List ℕ) (bs : List ℕ) (done : List (List ℕ)) (m : ℕ) → ((b : ℕ) → mem b bs ≡ true → flagged flag b ≡ true → count (mem b) done ≤ m) → count (clash flag bs) done ≤ length bs * m
unfolding clash
conflicts-le flag bs done m h =
    omega (
      arith,
      sum_le (λ xs. one (any (λ b. flagged flag b && mem b xs) bs)) (λ xs. sum_of (λ b. one (flagged flag b && mem b xs)) bs) done (λ xs. one-any (λ b. flagged flag b && mem b xs) bs),
      sum_swap (λ xs b. one (flagged flag b && mem b xs)) done bs,
      sum_le_in (λ b. sum_of (λ xs. one (flagged flag b && mem b xs)) done) (λ b. m * 1) bs each,
      sum_times m (λ b. 1) bs,
      ap (λ (k : ℕ). m * k) (sum_one bs),
    )
  where
    each : (b : ℕ) → mem b bs ≡ true → sum_of (λ xs. one (flagged flag b && mem b xs)) done ≤ m * 1
    each b i = by_cases (flagged flag b) (λ e. rw e (omega (arith, h b i e))) (λ e. rw e (omega (arith, sum_zero done)))

max-append-le : (xs : List ℕ) (c k : ℕ) → max_of suc xs ≤ k → c < k → max_of suc (xs ++ c ∷ []) ≤ k
max-append-le xs c k h l = omega (arith, max-append suc xs (c ∷ []))

count_shift : (p : List ℕ → Bool) (done rest : List (List ℕ)) (bs : List ℕ) → count p (done ++ bs ∷ rest) ≡ count p done + one (p bs) + count p rest
count_shift p done rest bs = omega (arith, sum_append (λ xs. one (p xs)) done (bs ∷ rest))

-- the colors stay below k, where r × (D - 1) + 1 ≤ k, no flagged body has more than D constraints, and each constraint has at most r bodies, one of them flagged
module _ (flag : List ℕ) (D r k : ℕ) (fits : 1 ≤ D → r * (D - 1) < k) where
  color_next : (done rest : List (List ℕ)) (colors bs : List ℕ) → ((b : ℕ) → flagged flag b ≡ true → count (mem b) (done ++ bs ∷ rest) ≤ D)
      → (leb (length bs) r && any (λ b. flagged flag b) bs) ≡ true → free (used_by flag done colors bs) < k
  color_next done rest colors bs deg ok =
      let short : length bs ≤ r = leb-true (length bs) r (and_left (leb (length bs) r) (any (λ b. flagged flag b) bs) ok) in
      let o = any_out (λ b. flagged flag b) bs (and_right (leb (length bs) r) (any (λ b. flagged flag b) bs) ok) in
      let pos : 1 ≤ D = omega (arith, deg o.0 o.2, count_shift (mem o.0) done rest bs, ap one o.1) in
      omega (
        arith,
        free-le (used_by flag done colors bs),
        used_le flag done colors bs,
        conflicts-le flag bs done (D - 1) (λ b i e. omega (arith, deg b e, count_shift (mem b) done rest bs, ap one i)),
        mul-le-mul_right (D - 1) short,
        fits pos,
      )

  pub color_few : (done : List (List ℕ)) (colors : List ℕ) (rest : List (List ℕ)) → ((b : ℕ) → flagged flag b ≡ true → count (mem b) (done ++ rest) ≤ D)
      → all (λ bs. leb (length bs) r && any (λ b. flagged flag b) bs) rest ≡ true → max_of suc colors ≤ k → max_of suc (color_from flag done colors rest) ≤ k
  unfolding color_from
  color_few done colors [] deg ok h = h
  color_few done colors (bs ∷ rest) deg ok h =
      color_few (done ++ bs ∷ []) (colors ++ free (used_by flag done colors bs) ∷ []) rest
      (λ b e. rw append_assoc (deg b e))
      (and_right (leb (length bs) r && any (λ b. flagged flag b) bs) (all (λ xs. leb (length xs) r && any (λ b. flagged flag b) xs) rest) ok)
      (max-append-le colors (free (used_by flag done colors bs)) k h (color_next done rest colors bs deg
      (and_left (leb (length bs) r && any (λ b. flagged flag b) bs) (all (λ xs. leb (length xs) r && any (λ b. flagged flag b) xs) rest) ok)))

-- ---- the coloring is proper: of two constraints on one flagged body, the colors differ
abbrev pub Proper : List ℕ → List (List ℕ) → List ℕ → Type 0
Proper flag cs colors = (r s b : ℕ) → r < s → s < length cs → flagged flag b ≡ true → mem b (get_or cs r []) ≡ true → mem b (get_or cs s []) ≡ true → get_or colors r 0 ≡ get_or colors s 0 → ⊥

proper_next : (flag : List ℕ) (done : List (List ℕ)) (colors bs : List ℕ) → length colors ≡ length done → Proper flag done colors
    → Proper flag (done ++ bs ∷ []) (colors ++ free (used_by flag done colors bs) ∷ [])
unfolding clash
proper_next flag done colors bs l h r s b p q e i j same =
    let c = free (used_by flag done colors bs) in
    let used = used_by flag done colors bs in
    let n : s < suc (length done) = omega (arith, length-append done (bs ∷ [])) in
    let i' : mem b (get_or done r []) ≡ true = rw (get_or-append done (bs ∷ []) [] r (omega arith)) at i in
    by_cases (eqb s (length done))
    (λ t. let j' : mem b bs ≡ true = rw (get_or_at done bs [] [] s (sym (eqb-true s (length done) t))) at j in
    let same' : get_or colors r 0 ≡ c = sym (get_or-append colors (c ∷ []) 0 r (omega arith)) ∙ same ∙ get_or_at colors c [] 0 s (omega (arith, eqb-true s (length done) t)) in
    clashes (mem (get_or colors r 0) used)
    (used_has flag done colors bs r l (omega arith) (any_in (λ a. flagged flag a && mem a (get_or done r [])) b bs j' (and_both (flagged flag b) (mem b (get_or done r [])) e i')))
    (ap (λ (a : ℕ). mem a used) same' ∙ free_new used))
    (λ t. let lt : s < length done = omega (arith, eqb-false s (length done) t) in
    h r s b p lt e i' (rw (get_or-append done (bs ∷ []) [] s lt) at j)
    (sym (get_or-append colors (c ∷ []) 0 r (omega arith)) ∙ same ∙ get_or-append colors (c ∷ []) 0 s (omega arith)))

proper_from : (flag : List ℕ) (done : List (List ℕ)) (colors : List ℕ) (rest : List (List ℕ)) → length colors ≡ length done → Proper flag done colors
    → Proper flag (done ++ rest) (color_from flag done colors rest)
unfolding color_from
proper_from flag done colors [] l h = rw append-nil h
proper_from flag done colors (bs ∷ rest) l h =
    let c = free (used_by flag done colors bs) in
    rw append_assoc at (proper_from flag (done ++ bs ∷ []) (colors ++ c ∷ []) rest (omega (arith, length-append colors (c ∷ []), length-append done (bs ∷ []))) (proper_next flag done colors bs l h))

pub proper : (flag : List ℕ) (cs : List (List ℕ)) → Proper flag cs (colors_of flag cs)
unfolding colors_of
proper flag cs = proper_from flag [] [] cs refl (λ r s b p q. absurd (omega arith))

colors-length_from : (flag : List ℕ) (done : List (List ℕ)) (colors : List ℕ) (rest : List (List ℕ)) → length (color_from flag done colors rest) ≡ length colors + length rest
unfolding color_from
colors-length_from flag done colors [] = omega arith
colors-length_from flag done colors (bs ∷ rest) = let c = free (used_by flag done colors bs) in omega (arith, colors-length_from flag (done ++ bs ∷ []) (colors ++ c ∷ []) rest, length-append colors (c ∷ []))

pub colors-length : (flag : List ℕ) (cs : List (List ℕ)) → length (colors_of flag cs) ≡ length cs
unfolding colors_of
colors-length flag cs = omega (arith, colors-length_from flag [] [] cs)

-- ---- where all colors are below n there are at most n groups; the colors are below the number of constraints
pub groups_below : (n : ℕ) (colors : List ℕ) → all (λ c. ltb c n) colors ≡ true → group_count colors ≤ n
unfolding group_count
groups_below n [] h = omega arith
groups_below n (c ∷ cs) h = max-le (ltb-true c n (and_left (ltb c n) (all (λ d. ltb d n) cs) h)) (groups_below n cs (and_right (ltb c n) (all (λ d. ltb d n) cs) h))

module _ (flags : List ℕ) where
  low_from : (n : ℕ) (done : List (List ℕ)) (colors : List ℕ) (rest : List (List ℕ)) → length done + length rest ≡ n
      → max_of suc colors ≤ n → max_of suc (color_from flags done colors rest) ≤ n
  unfolding color_from
  low_from n done colors [] e h = h
  low_from n done colors (bs ∷ rest) e h =
      let used = used_by flags done colors bs in
      low_from n (done ++ bs ∷ []) (colors ++ free used ∷ []) rest (omega (arith, length-append done (bs ∷ [])))
      (max-append-le colors (free used) n h (omega (arith, free-le used, used_le flags done colors bs, count-few (clash flags bs) done)))

  pub groups_few : (cs : List (List ℕ)) → group_count (colors_of flags cs) ≤ length cs
  unfolding group_count colors_of
  groups_few cs = low_from (length cs) [] [] cs (omega arith) (omega arith)

-- ---- one more constraint at the end
color_from-append : (flag : List ℕ) (done : List (List ℕ)) (colors : List ℕ) (xs ys : List (List ℕ)) → color_from flag done colors (xs ++ ys) ≡ color_from flag (done ++ xs) (color_from flag done colors xs) ys
unfolding color_from
color_from-append flag done colors [] ys = rw append-nil
color_from-append flag done colors (x ∷ xs) ys = color_from-append flag (done ++ x ∷ []) (colors ++ free (used_by flag done colors x) ∷ []) xs ys ∙ rw append_assoc

-- the color of one more constraint
pub colors_snoc : (flag : List ℕ) (cs : List (List ℕ)) (bs : List ℕ) → colors_of flag (cs ++ bs ∷ []) ≡ colors_of flag cs ++ free (used_by flag cs (colors_of flag cs) bs) ∷ []
unfolding colors_of color_from
colors_snoc flag cs bs = color_from-append flag [] [] cs (bs ∷ [])

-- ---- no color is left out, so a real group is never empty
used_in : (flag : List ℕ) (done : List (List ℕ)) (colors bs : List ℕ) (x : ℕ) → mem x (used_by flag done colors bs) ≡ true → mem x colors ≡ true
unfolding used_by
used_in flag [] colors bs x h = clashes false h refl
used_in flag (xs ∷ xss) [] bs x h = clashes false h refl
used_in flag (xs ∷ xss) (c ∷ cs) bs x h = by_cases (clash flag bs xs)
    (λ e. or_cases (eqb x c) (mem x (used_by flag xss cs bs)) (rw e at h) (λ q. or_left (eqb x c) (mem x cs) q) (λ k. or_right (eqb x c) (mem x cs) (used_in flag xss cs bs x k)))
    (λ e. or_right (eqb x c) (mem x cs) (used_in flag xss cs bs x (rw e at h)))

mem_snoc : (x c : ℕ) (xs : List ℕ) → mem x xs ≡ true → mem x (xs ++ c ∷ []) ≡ true
mem_snoc x c xs h = any_append (eqb x) xs (c ∷ []) ∙ or_left (mem x xs) (mem x (c ∷ [])) h

mem_last : (c : ℕ) (xs : List ℕ) → mem c (xs ++ c ∷ []) ≡ true
mem_last c xs = any_append (eqb c) xs (c ∷ []) ∙ or_right (mem c xs) (mem c (c ∷ [])) (mem_self c [])

-- every number below the count is a color
Whole : List ℕ → Type 0
Whole colors = (k : ℕ) → k < max_of suc colors → mem k colors ≡ true

max_snoc_le : (xs : List ℕ) (c k : ℕ) → k < max_of suc (xs ++ c ∷ []) → max_of suc xs ≤ k → k ≤ c
max_snoc_le xs c k h l = omega (arith, max-append suc xs (c ∷ []))

whole_from : (flag : List ℕ) (done : List (List ℕ)) (colors : List ℕ) (rest : List (List ℕ)) → Whole colors → Whole (color_from flag done colors rest)
unfolding color_from Whole
whole_from flag done colors [] h = h
whole_from flag done colors (bs ∷ rest) h =
    let used = used_by flag done colors bs in
    let c = free used in
    whole_from flag (done ++ bs ∷ []) (colors ++ c ∷ []) rest
    (λ k l. by_cases (ltb k (max_of suc colors))
    (λ e. mem_snoc k c colors (h k (ltb-true k (max_of suc colors) e)))
    (λ e. by_cases (eqb k c)
    (λ q. ap (λ (n : ℕ). mem n (colors ++ c ∷ [])) (eqb-true k c q) ∙ mem_last c colors)
    (λ q. let le = max_snoc_le colors c k l (ltb-false k (max_of suc colors) e) in
    mem_snoc k c colors (used_in flag done colors bs k (free-least used k (omega (arith, eqb-false k c q)))))))

pub group_not_empty : (flag : List ℕ) (cs : List (List ℕ)) (k : ℕ) → k < group_count (colors_of flag cs) → mem k (colors_of flag cs) ≡ true
unfolding group_count colors_of Whole
group_not_empty flag cs k h = whole_from flag [] [] cs (λ i l. absurd (omega arith)) k h

-- ---- the coloring is least: for each color below its own a constraint has an earlier one of that color in conflict
module _ (flags : List ℕ) where
  used_out : (done : List (List ℕ)) (colors bs : List ℕ) (k : ℕ) → length colors ≡ length done → mem k (used_by flags done colors bs) ≡ true
      → (s : ℕ) × (s < length done) × (get_or colors s 0 ≡ k) × (clash flags bs (get_or done s []) ≡ true)
  unfolding used_by
  used_out [] colors bs k l h = clashes false h refl
  used_out (xs ∷ xss) [] bs k l h = absurd (omega arith)
  used_out (xs ∷ xss) (c ∷ cs) bs k l h =
      by_cases (clash flags bs xs)
      (λ e. or_cases (eqb k c) (mem k (used_by flags xss cs bs)) (rw e at h)
      (λ q. (0, omega arith, sym (eqb-true k c q), e))
      (λ m. let o = used_out xss cs bs k (omega arith) m in (suc o.0, omega (arith, o.1), o.2, o.3)))
      (λ e. let o = used_out xss cs bs k (omega arith) (rw e at h) in (suc o.0, omega (arith, o.1), o.2, o.3))

  abbrev Least : List (List ℕ) → List ℕ → Type 0
  Least cs colors = (r k : ℕ) → r < length cs → k < get_or colors r 0 → (s : ℕ) × (s < r) × (get_or colors s 0 ≡ k) × (clash flags (get_or cs r []) (get_or cs s []) ≡ true)

  least-next : (done : List (List ℕ)) (colors bs : List ℕ) → length colors ≡ length done → Least done colors
      → Least (done ++ bs ∷ []) (colors ++ free (used_by flags done colors bs) ∷ [])
  least-next done colors bs l h r k q m =
      let used = used_by flags done colors bs in
      let c = free used in
      let n : r < suc (length done) = omega (arith, length-append done (bs ∷ [])) in
      by_cases (eqb r (length done))
      (λ t. let e = eqb-true r (length done) t in
      let o = used_out done colors bs k l (free-least used k (omega (arith, get_or_at colors c [] 0 r (omega arith)))) in (
        o.0,
        omega (arith, o.1),
        get_or-append colors (c ∷ []) 0 o.0 (omega (arith, o.1)) ∙ o.2,
        rw (get_or_at done bs [] [] r (sym e), get_or-append done (bs ∷ []) [] o.0 o.1) o.3,
      ))
      (λ t. let lt : r < length done = omega (arith, eqb-false r (length done) t) in
      let o = h r k lt (omega (arith, get_or-append colors (c ∷ []) 0 r (omega arith))) in (
        o.0,
        o.1,
        get_or-append colors (c ∷ []) 0 o.0 (omega (arith, o.1)) ∙ o.2,
        rw (get_or-append done (bs ∷ []) [] r lt, get_or-append done (bs ∷ []) [] o.0 (omega (arith, o.1))) o.3,
      ))

  least_from : (done : List (List ℕ)) (colors : List ℕ) (rest : List (List ℕ)) → length colors ≡ length done → Least done colors → Least (done ++ rest) (color_from flags done colors rest)
  unfolding color_from
  least_from done colors [] l h = rw append-nil h
  least_from done colors (bs ∷ rest) l h =
      let c = free (used_by flags done colors bs) in
      rw append_assoc at (least_from (done ++ bs ∷ []) (colors ++ c ∷ []) rest (omega (arith, length-append colors (c ∷ []), length-append done (bs ∷ []))) (least-next done colors bs l h))

  pub least : (cs : List (List ℕ)) → Least cs (colors_of flags cs)
  unfolding colors_of
  least cs = least_from [] [] cs refl (λ r k q m. absurd (omega arith))
