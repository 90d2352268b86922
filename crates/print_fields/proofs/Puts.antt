-- A text put into a buffer, and one byte before it.
use Rattle.std.proofs.Common.{ℕ, suc, ◌+◌, ◌≤◌, ◌≡◌, ap, ◌∙◌, List, ◌∷◌, ◌++◌, arith, length, take, drop, set, length-append, length-take-le, take-take, drop_at}
use Rattle.std.proofs.Math.Seq.{take-append-le, set_split}
use Rattle.lists.specs.Basics.{put}

-- a store just before what was put
pub put-before : (i v : ℕ) (text old : List ℕ) → suc i + length text ≤ length old → set (put (suc i) text old) i v ≡ put i (v ∷ text) old
unfolding put
put-before i v text old h =
    let rest = text ++ drop (suc i + length text) old in
    let p : length (take (suc i) old) ≡ suc i = length-take-le (suc i) old (omega arith) in
    let f : take i (take (suc i) old ++ rest) ≡ take i old = take-append-le i (take (suc i) old) rest (omega arith) ∙ take-take i (suc i) old (omega arith) in
    let e : suc i + length text ≡ i + suc (length text) = omega arith in
    set_split (take (suc i) old ++ rest) i v (omega (arith, length-append (take (suc i) old) rest))
    ∙ ap (λ (l : List ℕ). l ++ v ∷ drop (suc i) (take (suc i) old ++ rest)) f
    ∙ ap (λ (l : List ℕ). take i old ++ v ∷ l) (drop_at (take (suc i) old) rest (suc i) p)
    ∙ ap (λ (k : ℕ). take i old ++ v ∷ (text ++ drop k old)) e
