-- The tables are filled as far as the list goes; a refused bind lists nothing.
use Rattle.std.proofs.Common.{refl}
use Rattle.colored_bodies.proofs.Fills.{fillable, bound_is}
use Rattle.colored_bodies.proofs.BodyBinding.bind.Goals as goal

pub number_bodies-requires : goal.number_bodies-requires
number_bodies-requires c = ((fillable _ _ _ _ c.bind_refusal-asked.ensures c.listed-bound.ensures).room, refl)

pub mark_bodies-requires : goal.mark_bodies-requires
mark_bodies-requires c = (fillable _ _ _ _ c.bind_refusal-asked.ensures c.listed-bound.ensures, refl)

pub returns : goal.returns
returns c = record { refusal = c.bind_refusal-asked.ensures; binding = rw (c.number_bodies.ensures, c.mark_bodies.ensures) (bound_is _ _ _ _ c.bind_refusal-asked.ensures c.listed-bound.ensures) }
