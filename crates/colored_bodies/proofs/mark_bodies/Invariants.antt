-- The table is the marks of the bodies so far, padded.
use Rattle.std.proofs.Common.{take, ◌≡◌, map}
use Rattle.colored_bodies.specs.Bindings.{mark_of, padded}
use Rattle.colored_bodies.proofs.mark_bodies.Given as goal

abbrev pub invariant-loop-i : goal.invariant-loop-i
invariant-loop-i l = l.marks ≡ padded (map (mark_of l.types) (take l.i l.indices))
