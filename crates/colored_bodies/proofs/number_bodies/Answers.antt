use Rattle.colored_bodies.proofs.Fills.{list_padded}
use Rattle.colored_bodies.proofs.number_bodies.Goals as goal

pub returns : goal.returns
returns c = rw (c.copy_from_slice.ensures.after, c.requires.1) (list_padded _ c.requires.0)
