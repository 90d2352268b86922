-- The tables as the code is lent them.
use Rattle.std.specs.Prelude.{◌≡◌, length}
use Rattle.island.specs.declared.IslandTables as code
use Rattle.island.specs.Calls.{IslandTables, island_tables_of}

-- what they hold
abbrev pub tables_in : code.IslandTables → IslandTables
tables_in t = island_tables_of t.parents.now t.sizes.now t.body_islands.now t.manifold_islands.now t.joint_islands.now

-- each is the table that was lent, as long as it was
pub record SameTables (old new : code.IslandTables) : Type 0 where
  pub parents : new.parents.ghost_name ≡ old.parents.ghost_name
  pub sizes : new.sizes.ghost_name ≡ old.sizes.ghost_name
  pub body_islands : new.body_islands.ghost_name ≡ old.body_islands.ghost_name
  pub manifold_islands : new.manifold_islands.ghost_name ≡ old.manifold_islands.ghost_name
  pub joint_islands : new.joint_islands.ghost_name ≡ old.joint_islands.ghost_name
  pub long_parents : length new.parents.now ≡ length old.parents.now
  pub long_sizes : length new.sizes.now ≡ length old.sizes.now
  pub long_body_islands : length new.body_islands.now ≡ length old.body_islands.now
  pub long_manifold_islands : length new.manifold_islands.now ≡ length old.manifold_islands.now
  pub long_joint_islands : length new.joint_islands.now ≡ length old.joint_islands.now
