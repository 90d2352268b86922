-- The takes of one island, as they are made from its endpoints and counts.
use Rattle.std.specs.Prelude.{ℕ, ◌*◌, ◌/◌, ◌≤◌, ◌≡◌, true, cond, List, eqb, length}
use Rattle.frame.specs.Frames.{counts_known, end_count}
use Rattle.constraint_coloring.specs.declared.ConstraintColoring.{ConstraintColoring}
use Rattle.plan_questions.specs.Plans.{Tables, roomy_with, update_refusal}
use Rattle.multi_coloring.specs.Counts.{multi_update_refusal}
use Rattle.schedules.specs.Runs.{Call, freshly}
use Rattle.group_run.specs.Appends.{seen, plan_calls}

-- the constraints `ns` of island i are colored on a fresh plan with these flags, and its groups taken in order; without counts they are pairs
unfoldable pub island_calls : List ℕ → List ℕ → List ℕ → List ℕ → ℕ → List ℕ → List Call
island_calls types flags counts ends i ns = plan_calls (freshly flags counts ends) types ns i

-- the questions of its update, where there is room
abbrev pub fresh_refusal : List ℕ → List ℕ → List ℕ → ℕ
fresh_refusal flags counts ends = cond (eqb (length counts) 0) (update_refusal flags ends true) (multi_update_refusal flags ends counts true)

-- how many constraints there are
abbrev pub ranks : List ℕ → List ℕ → ℕ
ranks counts ends = cond (eqb (length counts) 0) (length ends / 2) (length counts)

-- one island of n constraints can be run: its update will be accepted, and the tables and the table of counts have room
pub record Ready (flags counts ends : List ℕ) (n : ℕ) (t : Tables) (plan_counts : List ℕ) : Type 0 where
  pub accepted : fresh_refusal flags counts ends ≡ 0
  pub ranked : n ≡ ranks counts ends
  pub tables : roomy_with (length flags) n (length ends) t ≡ true
  pub plan_counts_room : length counts ≤ length plan_counts

-- a plan as it stands in the tables u after its update: it has these counts, if any, and makes the takes of the definition's plan
pub record Colored (flags counts ends : List ℕ) (p : ConstraintColoring) (u : Tables) : Type 0 where
  pub groups : p.color_count ≤ 8192
  pub constraints : (length counts ≡ 0 → ⊥) → p.constraint_count ≡ length counts
  pub takes : (types ns : List ℕ) (i : ℕ) → plan_calls (seen p counts u.color_offsets u.colored_constraints u.color_body_offsets u.color_bodies u.constraint_body_positions) types ns i ≡ island_calls types flags counts ends i ns

-- what the counts of an island are known to be; without counts there is nothing to know. The tables have room for
-- their bounds, and positions for all of them
pub record Counted (counts body_constraints positions : List ℕ) : Type 0 where
  pub few : length counts ≤ 8192
  pub known : counts_known counts ≡ true
  pub sum : end_count counts ≤ 32768
  pub bounds : 2 * length counts ≤ length body_constraints
  pub positions_there : end_count counts ≤ length positions
