-- A frame's tables, filled for the run.
use Rattle.std.specs.Prelude.{ℕ, ◌+◌, ◌≤◌, ◌≡◌, cond, List, ◌++◌, Result, Ok, Err, length, take}
use Rattle.frame.specs.declared.refusal.Refusal.{Refusal}
use Rattle.frame.specs.Refusals.{refused_by}
use Rattle.frame.specs.Frames.{all_sound, degree_max}
use Rattle.frame.specs.Files.{count_b, count_m, count_j, decode}
use Rattle.island.specs.Calls.{IslandTables, Built}
use Rattle.island_numbers.specs.Numbers.{by_island}
use Rattle.frame.specs.Decodes.{Decoded}
use Rattle.frame_tables.specs.declared.Filling.{Filling}

-- what question 7 answers, once the questions before it are passed
unfoldable pub sound_refusal : List ℕ → ℕ
sound_refusal bs = cond (all_sound (decode bs)) 0 7

-- room in the island tables
pub record IslandRoom (bs : List ℕ) (t : IslandTables) : Type 0 where
  pub parents : count_b bs ≤ length t.parents
  pub sizes : count_b bs ≤ length t.sizes
  pub body_islands : count_b bs ≤ length t.body_islands
  pub manifold_islands : count_m bs ≤ length t.manifold_islands
  pub joint_islands : count_j bs ≤ length t.joint_islands

-- and in the other tables: numbers, and the workspace of a sort and of a count on each body
pub record Roomy (bs : List ℕ) (t : IslandTables) (ns ks ss os ds : List ℕ) : Type 0 where
  pub islands : IslandRoom bs t
  pub numbers : length ns ≡ count_m bs + count_j bs
  pub keys : count_m bs + count_j bs ≤ length ks
  pub scratch : count_m bs + count_j bs ≤ length ss
  pub offsets : count_m bs + count_j bs + 1 ≤ length os
  pub on_bodies : count_b bs ≤ length ds

-- the labels of all constraints: manifolds, then joints
abbrev pub labels_in : List ℕ → List ℕ → List ℕ → List ℕ
labels_in bs mi ji = take (count_m bs) mi ++ take (count_j bs) ji

-- how many islands an answer tells, and D; both 0 after a refusal
abbrev pub islands_in : Result Filling Refusal → ℕ
islands_in (Ok f) = f.islands
islands_in (Err _) = 0

abbrev pub degree_in : Result Filling Refusal → ℕ
degree_in (Ok f) = f.degree
degree_in (Err _) = 0

-- all tables filled: island tables at entry (t) and at exit (u), the sorted numbers, and the answer
pub record Fills (bs ts fs ps cs es : List ℕ) (t u : IslandTables) (ns : List ℕ) (r : Result Filling Refusal) : Type 0 where
  pub decoded : Decoded bs ts fs ps cs es
  pub islands : Built (decode bs) (sound_refusal bs) t u (refused_by r) (islands_in r)
  pub degree : degree_in r ≡ cond (all_sound (decode bs)) (degree_max (decode bs)) 0
  pub numbers : ns ≡ by_island (islands_in r) (labels_in bs u.manifold_islands u.joint_islands)
