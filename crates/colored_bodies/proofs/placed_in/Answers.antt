-- The tests are those of `placed`, grouped another way.
use Rattle.std.proofs.Math.Bool.{and_assoc, and-true, or-false}
use Rattle.colored_bodies.specs.Bindings.{placed}
use Rattle.colored_bodies.proofs.placed_in.Goals as goal

pub returns : goal.returns
unfolding placed
returns c = simp (and_assoc, and-true, or-false)
