-- The tables as the code is lent them.
use Rattle.std.specs.Prelude.{◌≡◌, length}
use Rattle.plan_questions.specs.Plans.{Tables}
use Rattle.frame_tables.specs.declared.ByIsland.{ByIsland}

-- each is the table that was lent, as long as it was
pub record SameByIsland (old new : ByIsland) : Type 0 where
  pub numbers : new.numbers.ghost_name ≡ old.numbers.ghost_name
  pub pairs : new.pairs.ghost_name ≡ old.pairs.ghost_name
  pub counts : new.counts.ghost_name ≡ old.counts.ghost_name
  pub long_numbers : length new.numbers.now ≡ length old.numbers.now
  pub long_pairs : length new.pairs.now ≡ length old.pairs.now
  pub long_counts : length new.counts.now ≡ length old.counts.now

-- of the plan's tables these nine stay as they were; `fill` works in the other four
pub record KeptPlan (old new : Tables) : Type 0 where
  pub dynamic_bodies : new.dynamic_bodies ≡ old.dynamic_bodies
  pub endpoints : new.endpoints ≡ old.endpoints
  pub body_offsets : new.body_offsets ≡ old.body_offsets
  pub body_constraints : new.body_constraints ≡ old.body_constraints
  pub color_stamps : new.color_stamps ≡ old.color_stamps
  pub colored_constraints : new.colored_constraints ≡ old.colored_constraints
  pub color_body_offsets : new.color_body_offsets ≡ old.color_body_offsets
  pub color_bodies : new.color_bodies ≡ old.color_bodies
  pub constraint_body_positions : new.constraint_body_positions ≡ old.constraint_body_positions
