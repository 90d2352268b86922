-- What the steps of a build leave: only the private functions' contracts cite these.
use Rattle.std.specs.Prelude.{ℕ, ◌≤◌, ◌≡◌, true, false, cond, List, Result, map, length, get_or, replicate}
use Rattle.lists.specs.Basics.{any}
use Rattle.frame.specs.Frames.{Frame, constraints, bodies, on, all_sound, none}
use Rattle.island_sets.specs.Sets.{root_of}
use Rattle.island_sets.specs.Steps.{Balanced}
use Rattle.connected_sets.specs.Islands.{heaviest, island_count, body_label, label}
use Rattle.frame.specs.declared.refusal.Refusal.{Refusal}
use Rattle.frame.specs.Refusals.{refused_by}
use Rattle.island.specs.Answers.{answer_islands}
use Rattle.island.specs.Calls.{IslandTables, WeighedSets, Built}

-- ---- a frame on tables of just its sizes

pub record Sized (f : Frame) (p b m j : List ℕ) : Type 0 where
  pub few : length f.types ≤ 4096
  pub long_parents : length p ≡ length f.types
  pub long_bodies : length b ≡ length f.types
  pub long_manifolds : length m ≡ length f.manifolds
  pub long_joints : length j ≡ length f.joints

-- its constraints are sound and joined, and label 0 tells which bodies they are on
pub record Ready (f : Frame) (p b m j : List ℕ) : Type 0 where
  pub sized : Sized f p b m j
  pub passed : all_sound f ≡ true
  pub balanced : Balanced p
  pub roots : root_of p ≡ heaviest f
  pub constrained : (x : ℕ) → get_or b x none ≡ cond (any (on x) (constraints f)) 0 none

-- its labels
pub record Labelled (f : Frame) (b m j : List ℕ) (islands : ℕ) : Type 0 where
  pub count : islands ≡ island_count f
  pub body_labels : b ≡ map (body_label f) (bodies f)
  pub manifold_labels : m ≡ map (label f) f.manifolds
  pub joint_labels : j ≡ map (label f) f.joints

-- no labels, and each body alone
pub record Blank (f : Frame) (p s b m j : List ℕ) (islands : ℕ) : Type 0 where
  pub count : islands ≡ 0
  pub parents : p ≡ bodies f
  pub sizes : s ≡ replicate (length f.types) 1
  pub body_labels : b ≡ replicate (length f.types) none
  pub manifold_labels : m ≡ replicate (length f.manifolds) none
  pub joint_labels : j ≡ replicate (length f.joints) none

-- question 7 decides between the two
pub record BuiltSized (f : Frame) (p s b m j : List ℕ) (r : Result ℕ Refusal) : Type 0 where
  pub refusal : refused_by r ≡ cond (all_sound f) 0 7
  pub accepted : all_sound f ≡ true → WeighedSets f p s × Labelled f b m j (answer_islands r)
  pub blank : all_sound f ≡ false → Blank f p s b m j (answer_islands r)

-- ---- a frame of nm manifolds and nj joints that passed questions 3 to 6

-- its tables are long enough
pub record Room (f : Frame) (nm nj : ℕ) (t : IslandTables) : Type 0 where
  pub few : length f.types ≤ 4096
  pub manifold_count : length f.manifolds ≡ nm
  pub joint_count : length f.joints ≡ nj
  pub parents : length f.types ≤ length t.parents
  pub sizes : length f.types ≤ length t.sizes
  pub bodies : length f.types ≤ length t.body_islands
  pub manifolds : nm ≤ length t.manifold_islands
  pub joints : nj ≤ length t.joint_islands

-- what is left of them: only question 7 is still asked
abbrev pub BuiltFront : Frame → IslandTables → IslandTables → Result ℕ Refusal → Type 0
BuiltFront f t u r = Built f (cond (all_sound f) 0 7) t u (refused_by r) (answer_islands r)
