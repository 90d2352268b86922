-- Fields, and how long they are.
use Rattle.std.proofs.Common.{ℕ, ◌+◌, ◌≤◌, List, [], ◌∷◌, ◌++◌, arith, length, length-append}
use Rattle.schedules.specs.Print.{decimal}
use Rattle.print_fields.proofs.Digits.{decimal-few}

-- a number with its end; a word, a space, and a number with its end
abbrev pub number : ℕ → ℕ → List ℕ
number n end = decimal n ++ end ∷ []

abbrev pub field : List ℕ → ℕ → ℕ → List ℕ
field word n end = (word ++ 32 ∷ []) ++ number n end

pub number_short : (n end : ℕ) → length (number n end) ≤ 21
number_short n end = omega (arith, length-append (decimal n) (end ∷ []), decimal-few n)

pub field_short : (word : List ℕ) (n end : ℕ) → length (field word n end) ≤ length word + 22
field_short word n end = omega (arith, length-append (word ++ 32 ∷ []) (number n end), length-append word (32 ∷ []), number_short n end)
