-- The questions in order, one "no" after another.
use Rattle.std.proofs.Common.{◌≡◌, ℕ, ◌+◌, ◌≤◌, true, eqb, leb, arith, eq-eqb, eqb-true, leb-true, ◌<◌, false, le-leb}
use Rattle.std.proofs.lemmas.Bool.{lt-leb}
use Rattle.lists.proofs.Laws.{or_cases, or_left, or_right}
use Rattle.frame.specs.Questions.{few_each}
use Rattle.frame.proofs.Questions.{passed}
use Rattle.frame_file.specs.Written.{file_length}
use Rattle.generator.specs.Calls.{pairs_possible, generate_refusal}

-- a pair is wanted, so there are two bodies for it
pub two-bodies : (b m j : ℕ) → pairs_possible b m j ≡ true → 1 ≤ m + j → 2 ≤ b
unfolding pairs_possible
two-bodies b m j e h = or_cases (leb 2 b) (eqb (m + j) 0) e (leb-true 2 b) (λ z. absurd (omega (arith, eqb-true (m + j) 0 z)))

-- fewer pairs can be made too
pub fewer_pairs : (b m j n k : ℕ) → pairs_possible b m j ≡ true → n + k ≤ m + j → pairs_possible b n k ≡ true
unfolding pairs_possible
fewer_pairs b m j n k e h =
    or_cases (leb 2 b) (eqb (m + j) 0) e (or_left (leb 2 b) (eqb (n + k) 0)) (λ z. or_right (leb 2 b) (eqb (n + k) 0) (eq-eqb (n + k) 0 (omega (arith, eqb-true (m + j) 0 z))))

-- ---- the questions

module _ (b m j room : ℕ) where
  pub no_3 : few_each b m j ≡ false → 3 ≡ generate_refusal b m j room
  unfolding generate_refusal
  no_3 e = rw e

  pub no_13 : few_each b m j ≡ true → pairs_possible b m j ≡ false → 13 ≡ generate_refusal b m j room
  unfolding generate_refusal
  no_13 e f = rw (e, f)

  pub no_6 : few_each b m j ≡ true → pairs_possible b m j ≡ true → room < file_length b m j → 6 ≡ generate_refusal b m j room
  unfolding generate_refusal
  no_6 e f h = rw (e, f, lt-leb (file_length b m j) room h)

  pub no_none : few_each b m j ≡ true → pairs_possible b m j ≡ true → file_length b m j ≤ room → 0 ≡ generate_refusal b m j room
  unfolding generate_refusal
  no_none e f h = rw (e, f, le-leb (file_length b m j) room h)

  pub all_yes : generate_refusal b m j room ≡ 0 → (few_each b m j ≡ true) × (pairs_possible b m j ≡ true) × (file_length b m j ≤ room)
  unfolding generate_refusal
  all_yes e =
      let q3 = passed (few_each b m j) _ 2 e in
      let q13 = passed (pairs_possible b m j) _ 12 q3.1 in
      let q6 = passed (leb (file_length b m j) room) _ 5 q13.1 in
      (q3.0, q13.0, leb-true (file_length b m j) room q6.0)
