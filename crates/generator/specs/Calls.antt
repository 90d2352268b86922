-- What `generate` asks, answers and leaves in the bytes that it was lent.
use Rattle.std.specs.Prelude.{◌≡◌, ℕ, ◌+◌, Bool, true, false, cond, not, ◌||◌, List, [], ◌∷◌, leb, eqb, length, Result, Ok, Err}
use Rattle.lists.specs.Basics.{over}
use Rattle.frame.specs.Questions.{question, asked, few_each}
use Rattle.frame.specs.declared.refusal.Refusal.{Refusal}
use Rattle.frame.specs.Refusals.{refused_by}
use Rattle.frame_file.specs.Written.{file_length}
use Rattle.generator.specs.Draws.{generated_bytes}

-- 13: no pair is wanted, or there are two bodies for it
unfoldable pub pairs_possible : ℕ → ℕ → ℕ → Bool
pairs_possible b m j = leb 2 b || eqb (m + j) 0

-- the refusal: questions 3, 13 and 6, with `room` bytes lent
unfoldable pub generate_refusal : ℕ → ℕ → ℕ → ℕ → ℕ
generate_refusal b m j room = asked (question 3 (few_each b m j) ∷ question 13 (pairs_possible b m j) ∷ question 6 (leb (file_length b m j) room) ∷ [])

-- the frame's length, 0 where refused; and whether an answer is a refusal
abbrev pub generated_length : Result ℕ Refusal → ℕ
generated_length (Ok n) = n
generated_length (Err k) = 0

abbrev pub generated_refused : Result ℕ Refusal → Bool
generated_refused (Ok n) = false
generated_refused (Err k) = true

-- a call by its numbers: the lent bytes were `old` and are `new`; the frame stands from place 0 on, and a refusal keeps all
pub record Made (seed b m j : ℕ) (old new : List ℕ) (number long : ℕ) : Type 0 where
  pub refusal : number ≡ generate_refusal b m j (length old)
  pub as_long : long ≡ cond (eqb (generate_refusal b m j (length old)) 0) (file_length b m j) 0
  pub bytes : new ≡ cond (eqb (generate_refusal b m j (length old)) 0) (over (generated_bytes seed b m j) old) old

-- the contract: such a call, and its answer, which is a refusal exactly if there is one
pub record Makes (seed b m j : ℕ) (old new : List ℕ) (r : Result ℕ Refusal) : Type 0 where
  pub made : Made seed b m j old new (refused_by r) (generated_length r)
  pub refused : generated_refused r ≡ not (eqb (generate_refusal b m j (length old)) 0)
