-- `degrees::touches`: whether one of the endpoints passed is dynamic, or one of the rest.
use Rattle.std.proofs.Common.{◌≡◌, ◌||◌, [], drop}
use Rattle.lists.specs.Basics.{any}
use Rattle.frame.specs.Frames.{frame_of, dynamic}
use Rattle.degrees.proofs.touches.Given as goal

abbrev pub invariant-loop-end : goal.invariant-loop-end
invariant-loop-end l = (l.touched || any (dynamic (frame_of l.types [] [] [])) (drop l.end-index l.ends)) ≡ any (dynamic (frame_of l.types [] [] [])) l.ends
