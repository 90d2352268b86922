-- The rest of a table in two parts: what it is once the front is written, and the whole once both are.
use Rattle.std.proofs.Common.{ℕ, ◌-◌, ◌≡◌, ◌∙◌, List, ◌++◌, length, take, drop, drop_at}
use Rattle.std.proofs.lemmas.List.{take_rest}

-- a stands at the front of the table l
pub rest_of : (n : ℕ) (l a : List ℕ) → length a ≡ n → take (length (a ++ drop n l) - n) (drop n (a ++ drop n l)) ≡ drop n l
rest_of n l a e = take_rest (a ++ drop n l) n ∙ drop_at a (drop n l) n e
