-- The four flags are those of the four marks.
use Rattle.colored_bodies.proofs.Positions.{dynamic_four}
use Rattle.colored_bodies.proofs.multi.dynamic_at.Goals as goal

pub returns : goal.returns
returns c = dynamic_four _ _ _ c.requires.room c.entries_at-entries.ensures
