-- `frame::constraints::all_sound`: the answer for the constraints that are left is the answer for all.
use Rattle.std.proofs.Common.{◌≡◌}
use Rattle.lists.specs.Basics.{all}
use Rattle.frame.specs.Frames.{sound}
use Rattle.frame.proofs.constraints.all_sound.Given as goal

abbrev pub invariant-loop-constraint : goal.invariant-loop-constraint
invariant-loop-constraint g l = all (sound l.bodies) (g.C.Constraints.left l.constraint-iterator) ≡ all (sound l.bodies) (g.C.Constraints.left l.fn.constraints)
