-- Sets of bodies as the code holds them.
use Rattle.std.specs.Prelude.{ℕ, ◌≡◌, length, replicate}
use Rattle.lists.specs.Basics.{range}
use Rattle.island_sets.specs.declared.BodySets.{BodySets}

-- they are in the tables that they were in
pub record Kept (old new : BodySets) : Type 0 where
  pub parents : new.parents.ghost_name ≡ old.parents.ghost_name
  pub sizes : new.sizes.ghost_name ≡ old.sizes.ghost_name
  pub long : length new.parents.now ≡ length old.parents.now

-- every one of n bodies is alone
pub record Alone (n : ℕ) (s : BodySets) : Type 0 where
  pub parents : s.parents.now ≡ range n
  pub sizes : s.sizes.now ≡ replicate n 1
