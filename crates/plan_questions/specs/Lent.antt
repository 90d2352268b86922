-- The tables as a call lends them, and their lengths.
use Rattle.std.specs.Prelude.{ℕ, ◌≡◌, length}
use Rattle.plan_questions.specs.Plans.{Tables}
use Rattle.plan_questions.specs.declared.PlanTables.{PlanTables}

-- what stands in the lent tables
abbrev pub tables_in : PlanTables → Tables
tables_in t = record {
  dynamic_bodies = t.dynamic_bodies.now;
  endpoints = t.endpoints.now;
  body_offsets = t.body_offsets.now;
  body_constraints = t.body_constraints.now;
  scratch_offsets = t.scratch_offsets.now;
  constraint_colors = t.constraint_colors.now;
  color_stamps = t.color_stamps.now;
  body_stamps = t.body_stamps.now;
  color_offsets = t.color_offsets.now;
  colored_constraints = t.colored_constraints.now;
  color_body_offsets = t.color_body_offsets.now;
  color_bodies = t.color_bodies.now;
  constraint_body_positions = t.constraint_body_positions.now;
}

-- the lent tables are the same references at the return as at the call
pub record SameTables (old new : PlanTables) : Type 0 where
  pub dynamic_bodies : new.dynamic_bodies.ghost_name ≡ old.dynamic_bodies.ghost_name
  pub endpoints : new.endpoints.ghost_name ≡ old.endpoints.ghost_name
  pub body_offsets : new.body_offsets.ghost_name ≡ old.body_offsets.ghost_name
  pub body_constraints : new.body_constraints.ghost_name ≡ old.body_constraints.ghost_name
  pub scratch_offsets : new.scratch_offsets.ghost_name ≡ old.scratch_offsets.ghost_name
  pub constraint_colors : new.constraint_colors.ghost_name ≡ old.constraint_colors.ghost_name
  pub color_stamps : new.color_stamps.ghost_name ≡ old.color_stamps.ghost_name
  pub body_stamps : new.body_stamps.ghost_name ≡ old.body_stamps.ghost_name
  pub color_offsets : new.color_offsets.ghost_name ≡ old.color_offsets.ghost_name
  pub colored_constraints : new.colored_constraints.ghost_name ≡ old.colored_constraints.ghost_name
  pub color_body_offsets : new.color_body_offsets.ghost_name ≡ old.color_body_offsets.ghost_name
  pub color_bodies : new.color_bodies.ghost_name ≡ old.color_bodies.ghost_name
  pub constraint_body_positions : new.constraint_body_positions.ghost_name ≡ old.constraint_body_positions.ghost_name

-- how long they are
pub record PlanLengths : Type 0 where
  pub dynamic_bodies : ℕ
  pub endpoints : ℕ
  pub body_offsets : ℕ
  pub body_constraints : ℕ
  pub scratch_offsets : ℕ
  pub constraint_colors : ℕ
  pub color_stamps : ℕ
  pub body_stamps : ℕ
  pub color_offsets : ℕ
  pub colored_constraints : ℕ
  pub color_body_offsets : ℕ
  pub color_bodies : ℕ
  pub constraint_body_positions : ℕ

abbrev pub lengths_of : Tables → PlanLengths
lengths_of t = record {
  dynamic_bodies = length t.dynamic_bodies;
  endpoints = length t.endpoints;
  body_offsets = length t.body_offsets;
  body_constraints = length t.body_constraints;
  scratch_offsets = length t.scratch_offsets;
  constraint_colors = length t.constraint_colors;
  color_stamps = length t.color_stamps;
  body_stamps = length t.body_stamps;
  color_offsets = length t.color_offsets;
  colored_constraints = length t.colored_constraints;
  color_body_offsets = length t.color_body_offsets;
  color_bodies = length t.color_bodies;
  constraint_body_positions = length t.constraint_body_positions;
}
