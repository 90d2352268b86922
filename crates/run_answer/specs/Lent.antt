-- What a run is lent, and room in it.
use Rattle.std.specs.Prelude.{ℕ, ◌+◌, ◌*◌, Bool, ◌&&◌, List, leb, length}
pub use Rattle.frame.specs.Answers.{with_counts, entries_for, counts_room}
use Rattle.island.specs.Calls.{IslandTables}
use Rattle.island.specs.declared.IslandTables as island_code
use Rattle.island.specs.Lent as island_lent
use Rattle.plan_questions.specs.Plans as plans
use Rattle.plan_questions.specs.declared.PlanTables as plan_code
use Rattle.plan_questions.specs.Lent as plan_lent
use Rattle.frame.specs.declared.FrameTables.{FrameTables}
use Rattle.frame_tables.specs.declared.ByIsland.{ByIsland}

-- ---- the lent tables

-- the island tables, the turn table, and the workspace: types, flags, the frame's endpoints and those of all islands, their counts (of a version
-- 2 frame), enabled bytes, constraint numbers, and the plan's fourteen tables
pub record Lent : Type 0 where
  pub islands : IslandTables
  pub turns : List ℕ
  pub types : List ℕ
  pub flags : List ℕ
  pub pairs : List ℕ
  pub island_pairs : List ℕ
  pub counts : List ℕ
  pub island_counts : List ℕ
  pub enabled : List ℕ
  pub numbers : List ℕ
  pub plan : plans.Tables
  pub plan_counts : List ℕ

-- these tables, in the order in which a run is lent them
abbrev pub lent_of : IslandTables → List ℕ → List ℕ → List ℕ → List ℕ → List ℕ → List ℕ → List ℕ → List ℕ → List ℕ → plans.Tables → List ℕ → Lent
lent_of islands turns types flags pairs island_pairs counts island_counts enabled numbers plan plan_counts = record {
  islands = islands;
  turns = turns;
  types = types;
  flags = flags;
  pairs = pairs;
  island_pairs = island_pairs;
  counts = counts;
  island_counts = island_counts;
  enabled = enabled;
  numbers = numbers;
  plan = plan;
  plan_counts = plan_counts;
}

-- the same as the code is lent them: the turn table and the plan's counts as lists, the others as structs
abbrev pub lent_in : island_code.IslandTables → List ℕ → FrameTables → ByIsland → plan_code.PlanTables → List ℕ → Lent
lent_in islands turns tables by_island plan plan_counts = record {
  islands = island_lent.tables_in islands;
  turns = turns;
  types = tables.types.now;
  flags = tables.flags.now;
  pairs = tables.pairs.now;
  island_pairs = by_island.pairs.now;
  counts = tables.counts.now;
  island_counts = by_island.counts.now;
  enabled = tables.enabled.now;
  numbers = by_island.numbers.now;
  plan = plan_lent.tables_in plan;
  plan_counts = plan_counts;
}

-- ---- question 6

-- question 6, for a frame of b bodies, m manifolds and j joints, whose constraints have counts or are pairs
unfoldable pub roomy_for : Bool → ℕ → ℕ → ℕ → Lent → Bool
roomy_for v b m j l =
    leb b (length l.islands.parents) && leb b (length l.islands.sizes) && leb b (length l.islands.body_islands)
    && leb m (length l.islands.manifold_islands) && leb j (length l.islands.joint_islands)
    && leb (3 * (m + j)) (length l.turns) && leb b (length l.types) && leb b (length l.flags)
    && leb (entries_for v m j) (length l.pairs) && leb (entries_for v m j) (length l.island_pairs)
    && leb (counts_room v m j) (length l.counts) && leb (counts_room v m j) (length l.island_counts) && leb (counts_room v m j) (length l.plan_counts)
    && leb j (length l.enabled) && leb (m + j) (length l.numbers)
    && plans.roomy_with b (m + j) (entries_for v m j) l.plan
