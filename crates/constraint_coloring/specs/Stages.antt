-- What two inner steps of an update need and leave: the bodies and positions of all groups, and the whole plan built.
use Rattle.std.specs.Prelude.{ℕ, ◌+◌, ◌≤◌, ◌≡◌, true, List, length}
use Rattle.lists.specs.Basics.{all}
use Rattle.frame.specs.Frames.{fits}
use Rattle.groups.specs.Groups.{Plan, positions, flatten}
use Rattle.parts.specs.Parts.{parts_at}
use Rattle.parts.specs.Steps.{Gapless}
use Rattle.gathering.specs.Gathers.{Gathered}
use Rattle.plan_questions.specs.Plans.{Tables}
use Rattle.constraint_coloring.specs.Calls.{carried, Leaves}
use Rattle.constraint_coloring.specs.declared.ConstraintColoring.{ConstraintColoring}

-- colored constraints cs are listed: the bodies of all groups, where each group's start, with the end, and the positions of all constraints
pub record Scheduled (body_count : ℕ) (cs : List (List ℕ)) (constraint_colors : List ℕ) (color_count : ℕ) (color_bodies color_body_offsets' color_bodies' constraint_body_positions' : List ℕ) : Type 0 where
  pub gathered : Gathered body_count cs constraint_colors color_count color_body_offsets' color_bodies color_bodies'
  pub positions : constraint_body_positions' ≡ flatten (positions body_count cs constraint_colors) (length constraint_colors)

-- n constraints that fill the endpoint list and pass question 7, and room in the tables that a build writes
pub record Buildable (flags ends bounds : List ℕ) (n : ℕ) (t : Tables) : Type 0 where
  pub few_bodies : length flags ≤ 4096
  pub few : n ≤ 8192
  pub gapless : Gapless n bounds ends
  pub sound : all (fits (length flags)) (parts_at n bounds ends) ≡ true
  pub dynamic_bodies : length flags ≤ length t.dynamic_bodies
  pub endpoints : length ends ≤ length t.endpoints
  pub scratch_bodies : length flags ≤ length t.scratch_offsets
  pub scratch_constraints : n ≤ length t.scratch_offsets
  pub constraint_colors : n ≤ length t.constraint_colors
  pub body_stamps : length flags ≤ length t.body_stamps
  pub color_offsets : n + 1 ≤ length t.color_offsets
  pub colored_constraints : n ≤ length t.colored_constraints
  pub color_body_offsets : n + 1 ≤ length t.color_body_offsets
  pub color_bodies : length ends ≤ length t.color_bodies
  pub constraint_body_positions : length ends ≤ length t.constraint_body_positions

-- the plan d is built: the tables t at entry and u at exit, what it carries r
pub record Rebuilt (flags ends : List ℕ) (d : Plan) (t u : Tables) (r : ConstraintColoring) : Type 0 where
  pub plan : r ≡ carried d
  pub tables : Leaves true flags ends d t u
