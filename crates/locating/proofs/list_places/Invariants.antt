-- `list_places`: the bodies passed have their places.
use Rattle.locating.proofs.Places.{Placing}
use Rattle.locating.proofs.list_places.Given as goal

abbrev pub invariant-loop-place : goal.invariant-loop-place
invariant-loop-place l = Placing l.bodies l.initial.places l.places l.place
