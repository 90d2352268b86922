-- `stamp_part`: the bodies passed are stamped and counted.
use Rattle.std.proofs.Common.{take}
use Rattle.gathering.specs.Gathers.{Counted}
use Rattle.gathering.proofs.stamp_part.Given as goal

abbrev pub invariant-loop-body : goal.invariant-loop-body
invariant-loop-body l = Counted l.stamp (take l.body-index l.bodies) 0 l.initial.body_stamps l.body_stamps l.count
