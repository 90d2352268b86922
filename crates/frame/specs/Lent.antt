-- The tables of a file as the code is lent them.
use Rattle.std.specs.Prelude.{◌≡◌, length}
use Rattle.frame.specs.declared.FrameTables.{FrameTables}

-- each is the table that was lent, as long as it was
pub record SameFrame (old new : FrameTables) : Type 0 where
  pub types : new.types.ghost_name ≡ old.types.ghost_name
  pub flags : new.flags.ghost_name ≡ old.flags.ghost_name
  pub pairs : new.pairs.ghost_name ≡ old.pairs.ghost_name
  pub counts : new.counts.ghost_name ≡ old.counts.ghost_name
  pub enabled : new.enabled.ghost_name ≡ old.enabled.ghost_name
  pub long_types : length new.types.now ≡ length old.types.now
  pub long_flags : length new.flags.now ≡ length old.flags.now
  pub long_pairs : length new.pairs.now ≡ length old.pairs.now
  pub long_counts : length new.counts.now ≡ length old.counts.now
  pub long_enabled : length new.enabled.now ≡ length old.enabled.now
