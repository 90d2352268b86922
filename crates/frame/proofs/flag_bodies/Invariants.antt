-- `frame::flag_bodies`: the flags filled so far, and those still to come, make up all.
use Rattle.std.proofs.Common.{◌≡◌, ◌++◌, map, take, drop}
use Rattle.frame.specs.Frames.{flag_of}
use Rattle.frame.proofs.flag_bodies.Given as goal

abbrev pub invariant-loop-i : goal.invariant-loop-i
invariant-loop-i l = take l.i l.flags ++ map flag_of (drop l.i l.types) ≡ map flag_of l.types
