-- Counting the numbers below n that pass a test: one more number adds one if it passes. So a number that passes is counted in every longer count,
-- and two numbers that pass, with as many passing numbers below either, are the same number.
use Rattle.std.proofs.Common.{ℕ, zero, suc, ◌+◌, ◌≤◌, ◌<◌, arith, ◌≡◌, ap, ◌∙◌, Bool, true, [], ◌∷◌}
use Rattle.std.proofs.Math.Decide.{ℕ_discrete, dec_lt}
use Rattle.lists.specs.Basics.{one, count, range}
use Rattle.lists.proofs.Sums.{sum_append}
use Rattle.lists.proofs.Laws.{length-range, count-few}
use Rattle.lists.proofs.Ranges.{range_snoc}

pub count_next : (p : ℕ → Bool) (n : ℕ) → count p (range (suc n)) ≡ count p (range n) + one (p n)
count_next p n = ap (count p) (range_snoc n) ∙ sum_append (λ x. one (p x)) (range n) (n ∷ []) ∙ omega arith

pub count-le : (p : ℕ → Bool) (n : ℕ) → count p (range n) ≤ n
count-le p n = omega (arith, count-few p (range n), length-range 0 n)

pub count_past : (p : ℕ → Bool) (a b : ℕ) → p a ≡ true → a < b → count p (range a) < count p (range b)
count_past p a zero e h = absurd (omega arith)
count_past p a (suc b) e h = go (ℕ_discrete a b) (count_past p a b e)
  where
    go : Dec (a ≡ b) → (a < b → count p (range a) < count p (range b)) → count p (range a) < count p (range (suc b))
    go (yes q) ih = omega (arith, count_next p b, ap (λ (n : ℕ). count p (range n)) q, ap (λ (n : ℕ). one (p n)) q, ap one e)
    go (no q) ih = omega (arith, count_next p b, ih (omega arith))

pub count_same : (p : ℕ → Bool) (a b : ℕ) → p a ≡ true → p b ≡ true → count p (range a) ≡ count p (range b) → a ≡ b
count_same p a b e f q = go (dec_lt a b) (dec_lt b a)
  where
    go : Dec (a < b) → Dec (b < a) → a ≡ b
    go (yes h) d = absurd (omega (arith, count_past p a b e h))
    go (no h) (yes k) = absurd (omega (arith, count_past p b a f k))
    go (no h) (no k) = omega arith
