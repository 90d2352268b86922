-- The endpoint pairs one by one: constraint i has its two bodies at places 2 × i and 2 × i + 1 of the list.
use Rattle.std.proofs.Common.{ℕ, zero, suc, ◌+◌, ◌*◌, ◌<◌, ◌≡◌, refl, ap, List, [], ◌∷◌, ◌++◌, arith, length, get_or, ◌≤◌}
use Rattle.lists.specs.Basics.{sum_of}
use Rattle.groups.specs.Groups.{pairs_of}

pub pairs_length : (n : ℕ) (es : List ℕ) → length es ≡ 2 * n → length (pairs_of es) ≡ n
pairs_length zero [] e = refl
pairs_length (suc n) [] e = absurd (omega arith)
pairs_length n (a ∷ []) e = absurd (omega arith)
pairs_length zero (a ∷ b ∷ es) e = absurd (omega arith)
pairs_length (suc n) (a ∷ b ∷ es) e = ap suc (pairs_length n es (omega arith))

-- constraint i
pub pairs_from-at : (i : ℕ) (es : List ℕ) → 2 * i + 1 < length es → get_or (pairs_of es) i [] ≡ get_or es (2 * i) 0 ∷ get_or es (2 * i + 1) 0 ∷ []
pairs_from-at i [] h = absurd (omega arith)
pairs_from-at i (a ∷ []) h = absurd (omega arith)
pairs_from-at zero (a ∷ b ∷ es) h = refl
pairs_from-at (suc i) (a ∷ b ∷ es) h =
    let p : 2 * suc i ≡ suc (suc (2 * i)) = omega arith in
    let q : 2 * suc i + 1 ≡ suc (suc (2 * i + 1)) = omega arith in
    rw (q, p) (pairs_from-at i es (omega arith))

pub two_ends : (es : List ℕ) (i : ℕ) → i < length (pairs_of es) → length (get_or (pairs_of es) i []) ≡ 2
two_ends [] i h = absurd (omega arith)
two_ends (a ∷ []) i h = absurd (omega arith)
two_ends (a ∷ b ∷ es) zero h = refl
two_ends (a ∷ b ∷ es) (suc i) h = two_ends es i (omega arith)

-- all constraints
pub pairs_sum : (es : List ℕ) → sum_of length (pairs_of es) ≤ length es
pairs_sum [] = omega arith
pairs_sum (a ∷ []) = omega arith
pairs_sum (a ∷ b ∷ es) = omega (arith, pairs_sum es)

pub pairs_append : (n : ℕ) (xs ys : List ℕ) → length xs ≡ 2 * n → pairs_of (xs ++ ys) ≡ pairs_of xs ++ pairs_of ys
pairs_append n [] ys e = refl
pairs_append n (a ∷ []) ys e = absurd (omega arith)
pairs_append zero (a ∷ b ∷ xs) ys e = absurd (omega arith)
pairs_append (suc n) (a ∷ b ∷ xs) ys e = ap (λ (l : List (List ℕ)). (a ∷ b ∷ []) ∷ l) (pairs_append n xs ys (omega arith))
