-- `run_colored`: there is room for the bounds of the counts, and positions for all of them.
use Rattle.std.proofs.Common.{arith}
use Rattle.one_island.proofs.Plans.{colored_countable}
use Rattle.one_island.proofs.run_colored.Goals as goal

pub fill_bounds-requires : goal.fill_bounds-requires
fill_bounds-requires c = let k = c.requires.counted in record { few = k.few; sum = k.sum; bounds = k.bounds }

pub planned_in-planned-requires-clause-bounds : goal.planned_in-planned-requires-clause-bounds
planned_in-planned-requires-clause-bounds c = omega (arith, c.requires.counted.bounds, c.fill_bounds.ensures.same_length)

pub planned_in-planned-requires-clause-countable : goal.planned_in-planned-requires-clause-countable
planned_in-planned-requires-clause-countable c = colored_countable _ c.requires.counted c.requires.constraints c.fill_bounds.ensures.bounds c.fill_bounds.ensures.same_length
