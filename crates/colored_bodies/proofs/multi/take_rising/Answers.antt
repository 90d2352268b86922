-- The positions go to the first of four places and are sorted there; they are still places.
use Rattle.colored_bodies.proofs.Positions.{rising_places}
use Rattle.colored_bodies.proofs.multi.take_rising.Goals as goal

pub take_each-requires : goal.take_each-requires
take_each-requires c = rising_places c.args.positions.now _ _ _ c.copy_from_slice.ensures.after c.sort.ensures c.requires.1
