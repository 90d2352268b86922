-- `locate`: the constraints of the groups before `color` have their positions.
use Rattle.locating.proofs.Settles.{Settling}
use Rattle.locating.proofs.locate.Given as goal

abbrev pub invariant-loop-color : goal.invariant-loop-color
invariant-loop-color l = Settling l.body_count l.ends.bounds.now l.ends.endpoints.now l.constraint_colors l.color_count l.initial.places l.initial.constraint_body_positions l.places l.constraint_body_positions l.color
