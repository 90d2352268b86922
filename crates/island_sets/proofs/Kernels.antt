-- Joining by weight and joining by lowest body make the same sets. Either step gives one number, that of a's set or of b's, to both sets, and leaves the rest:
-- so after it two bodies are together exactly if they were, or each was with a or with b. That only asks which bodies were together before.
use Rattle.std.proofs.Common.{ℕ, ◌≤◌, min, arith, ⊎_elim, ◌≡◌, refl, sym, ap, ◌∙◌, Bool, true, false, ◌&&◌, ◌||◌, cond, eqb, ltb, eqb-true, eq-eqb, ne_eqb}
use Rattle.std.proofs.Math.Bool.{or-true, or-false}
use Rattle.std.proofs.Math.Decide.{dec_le}
use Rattle.std.proofs.lemmas.Bool.{eqb-false}
use Rattle.lists.specs.Basics.{one, range}
use Rattle.lists.proofs.Laws.{by_cases, clashes, or_left, or_right}
use Rattle.lists.proofs.Sums.{sum_ext}
use Rattle.island_sets.specs.Sets.{relabel, merge, size_in, winner_of, winner, hang}
use Rattle.island_sets.specs.Steps.{SameSets}
use Rattle.island_sets.proofs.Merges.{relabel_cases, relabel-left, relabel_right}

-- z is a or b
abbrev either : ℕ → ℕ → ℕ → Bool
either a b z = eqb z a || eqb z b

either_left : (a b : ℕ) → either a b a ≡ true
either_left a b = or_left (eqb a a) (eqb a b) (eq-eqb a a refl)

either_right : (a b : ℕ) → either a b b ≡ true
either_right a b = or_right (eqb b a) (eqb b b) (eq-eqb b b refl)

-- ---- one step over numbers: a and b become v, which is one of them
module _ (a b v : ℕ) (h : either a b v ≡ true) where
  apart : (x y : ℕ) → either a b x ≡ true → either a b y ≡ false → eqb x y ≡ false
  apart x y i j = ne_eqb x y (λ e. clashes (either a b y) (ap (either a b) (sym e) ∙ i) j)

  apart_back : (x y : ℕ) → either a b x ≡ false → either a b y ≡ true → eqb x y ≡ false
  apart_back x y i j = ne_eqb x y (λ e. clashes (either a b x) (ap (either a b) e ∙ j) i)

  step_eqb : (x y : ℕ) → eqb (cond (either a b x) v x) (cond (either a b y) v y) ≡ (eqb x y || (either a b x && either a b y))
  step_eqb x y = by_cases (either a b x) (λ i. by_cases (either a b y) (both i) (left i)) (λ i. by_cases (either a b y) (right i) (none i))
    where
      both : either a b x ≡ true → either a b y ≡ true → eqb (cond (either a b x) v x) (cond (either a b y) v y) ≡ (eqb x y || (either a b x && either a b y))
      both i j = rw (i, j) (eq-eqb v v refl ∙ sym (or-true (eqb x y)))

      left : either a b x ≡ true → either a b y ≡ false → eqb (cond (either a b x) v x) (cond (either a b y) v y) ≡ (eqb x y || (either a b x && either a b y))
      left i j = rw (i, j) (apart v y h j ∙ sym (apart x y i j) ∙ sym (or-false (eqb x y)))

      right : either a b x ≡ false → either a b y ≡ true → eqb (cond (either a b x) v x) (cond (either a b y) v y) ≡ (eqb x y || (either a b x && either a b y))
      right i j = rw (i, j) (apart_back x v i h ∙ sym (apart_back x y i j) ∙ sym (or-false (eqb x y)))

      none : either a b x ≡ false → either a b y ≡ false → eqb (cond (either a b x) v x) (cond (either a b y) v y) ≡ (eqb x y || (either a b x && either a b y))
      none i j = rw (i, j) (sym (or-false (eqb x y)))

-- ---- the two steps are of that kind
min-either : (p q : ℕ) → Dec (p ≤ q) → either p q (min p q) ≡ true
min-either p q (yes h) = let e : min p q ≡ p = omega arith in rw e (either_left p q)
min-either p q (no h) = let e : min p q ≡ q = omega arith in rw e (either_right p q)

winner-either : (nb : ℕ) (root : ℕ → ℕ) (p q : ℕ) → either p q (winner nb root p q) ≡ true
unfolding winner
winner-either nb root p q = go (size_in nb root p) (size_in nb root q)
  where
    go : (m n : ℕ) → either p q (winner_of m n p q) ≡ true
    go m n = by_cases (ltb m n) (λ t. rw t (either_right p q)) (λ t. by_cases (ltb n m) (λ k. rw (t, k) (either_left p q)) (λ k. rw (t, k) (min-either p q (dec_le p q))))

relabel_is : (p q z : ℕ) → relabel p q z ≡ cond (either p q z) (min p q) z
relabel_is p q z = by_cases (eqb z p)
    (λ e. rw e (ap (relabel p q) (eqb-true z p e) ∙ relabel-left p q))
    (λ e. by_cases (eqb z q)
    (λ k. rw (e, k) (ap (relabel p q) (eqb-true z q k) ∙ relabel_right p q))
    (λ k. rw (e, k) (off (eqb-false z p e) (eqb-false z q k))))
  where
    off : (z ≡ p → ⊥) → (z ≡ q → ⊥) → relabel p q z ≡ z
    off n m = ⊎_elim (λ w. absurd (omega (arith, n, m, w.0))) (λ w. w.1) (relabel_cases p q z)

-- two bodies x and y are together after a and b are joined
abbrev after : (ℕ → ℕ) → ℕ → ℕ → ℕ → ℕ → Bool
after g a b x y = eqb (g x) (g y) || ((eqb (g x) (g a) || eqb (g x) (g b)) && (eqb (g y) (g a) || eqb (g y) (g b)))

hang-after : (nb : ℕ) (g : ℕ → ℕ) (a b x y : ℕ) → eqb (hang nb g a b x) (hang nb g a b y) ≡ after g a b x y
hang-after nb g a b x y = step_eqb (g a) (g b) (winner nb g (g a) (g b)) (winner-either nb g (g a) (g b)) (g x) (g y)

merge-after : (g : ℕ → ℕ) (a b x y : ℕ) → eqb (merge g a b x) (merge g a b y) ≡ after g a b x y
merge-after g a b x y =
    ap (λ (z : ℕ). eqb z (merge g a b y)) (relabel_is (g a) (g b) (g x))
    ∙ ap (eqb (cond (either (g a) (g b) (g x)) (min (g a) (g b)) (g x))) (relabel_is (g a) (g b) (g y))
    ∙ step_eqb (g a) (g b) (min (g a) (g b)) (min-either (g a) (g b) (dec_le (g a) (g b))) (g x) (g y)

-- ---- so both keep the same sets
pub same_step : (nb : ℕ) (g h : ℕ → ℕ) (a b : ℕ) → SameSets g h → SameSets (hang nb g a b) (merge h a b)
unfolding SameSets
same_step nb g h a b s x y =
    let e : after g a b x y ≡ after h a b x y = rw (s x y, s x a, s x b, s y a, s y b) in
    hang-after nb g a b x y ∙ e ∙ sym (merge-after h a b x y)

-- the number of bodies in the set of b is the same by either
pub same_size : (nb : ℕ) (g h : ℕ → ℕ) → SameSets g h → (b : ℕ) → size_in nb g (g b) ≡ size_in nb h (h b)
unfolding SameSets size_in
same_size nb g h s b = sum_ext (λ y. one (eqb (g y) (g b))) (λ y. one (eqb (h y) (h b))) (range nb) (λ y. ap one (s y b))
