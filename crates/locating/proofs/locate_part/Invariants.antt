-- `locate_part`: each body stands in the list, so `place_of` answers its place, and the endpoints passed have their positions.
use Rattle.lists.specs.Basics.{place}
use Rattle.locating.proofs.Places.{Filling}
use Rattle.locating.proofs.locate_part.Given as goal

abbrev pub invariant-loop-i : goal.invariant-loop-i
invariant-loop-i l = Filling (λ b. place b l.bodies) l.part l.initial.positions l.positions l.i
