-- What a digit and a byte that is not 0 tell.
use Rattle.std.proofs.Common.{ℕ, zero, suc, ◌≤◌, ◌<◌, ◌≡◌, true, List, [], ◌∷◌, arith, leb, length, get_or, leb-true, rules}
use Rattle.std.specs.Char.{is_ascii_digit}
use Rattle.lists.proofs.Laws.{and_left, and_right}
use Rattle.lift_line.specs.Lines.{digit}

-- a digit's bounds
pub digit_low : (x : ℕ) → digit x ≡ true → 48 ≤ x
digit_low x h = leb-true 48 x (and_left (leb 48 x) (leb x 57) h)

pub digit_high : (x : ℕ) → digit x ≡ true → x ≤ 57
digit_high x h = leb-true x 57 (and_right (leb 48 x) (leb x 57) h)

-- a place with a byte that is not 0 lies in the text
pub inside : (xs : List ℕ) (i : ℕ) → 1 ≤ get_or xs i 0 → i < length xs
inside [] i h = absurd (omega arith)
inside (x ∷ xs) zero h = omega arith
inside (x ∷ xs) (suc i) h = omega (arith, inside xs i h)

-- the library's digits are these
pub ascii_is : (x : ℕ) → is_ascii_digit x ≡ digit x
ascii_is x = search rules
