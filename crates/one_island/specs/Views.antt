-- An island, and the same with its plan, as the definitions name their parts.
use Rattle.std.specs.Prelude.{ℕ, ◌*◌, ◌≤◌, ◌≡◌, List, length, take}
use Rattle.frame.specs.Frames.{end_count}
use Rattle.constraint_coloring.specs.declared.ConstraintColoring.{ConstraintColoring}
use Rattle.plan_questions.specs.Plans.{Tables}
use Rattle.schedules.specs.Runs.{Call}
use Rattle.group_run.specs.Appends.{seen, plan_calls}
use Rattle.group_run.specs.declared.planned.PlannedIsland.{PlannedIsland}
use Rattle.one_island.specs.declared.lent.Island.{Island}
use Rattle.one_island.specs.Island.{island_calls}

-- the takes of its fresh plan
abbrev pub calls_for : Island → List Call
calls_for i = island_calls i.types.now i.flags.now i.counts.now i.ends.now i.island i.numbers.now

-- those of a plan as it stands in these tables
abbrev pub planned_calls : Island → ConstraintColoring → Tables → List Call
planned_calls i p t = plan_calls (seen p i.counts.now t.color_offsets t.colored_constraints t.color_body_offsets t.color_bodies t.constraint_body_positions) i.types.now i.numbers.now i.island

-- counts whose bounds fit a table of so many places
pub record Boundable (counts : List ℕ) (places : ℕ) : Type 0 where
  pub few : length counts ≤ 8192
  pub sum : end_count counts ≤ 32768
  pub bounds : 2 * length counts ≤ places

-- the island with this plan and these tables, where the bounds of its constraints are at the front of one
pub record Planned (i : Island) (q : ConstraintColoring) (t : Tables) (p : PlannedIsland) : Type 0 where
  pub island : p.island ≡ i.island
  pub numbers : p.numbers.now ≡ i.numbers.now
  pub types : p.types.now ≡ i.types.now
  pub plan : p.plan ≡ q
  pub counts : p.counts.now ≡ i.counts.now
  pub bounds : p.bounds.now ≡ take (2 * length i.counts.now) t.body_constraints
  pub color_offsets : p.members.offsets.now ≡ t.color_offsets
  pub colored_constraints : p.members.table.now ≡ t.colored_constraints
  pub color_body_offsets : p.bodies.offsets.now ≡ t.color_body_offsets
  pub color_bodies : p.bodies.table.now ≡ t.color_bodies
  pub positions : p.positions.now ≡ t.constraint_body_positions
