-- `collect`: what is collected, and the stamped bodies still to come, are all stamped bodies; the measure is the bodies left.
use Rattle.std.proofs.Common.{◌-◌, length}
use Rattle.gathering.proofs.Collects.{Collecting}
use Rattle.gathering.proofs.collect.Given as goal

abbrev pub invariant-loop-at : goal.invariant-loop-at
invariant-loop-at l = Collecting l.stamp l.body_stamps l.initial.part l.part l.body l.at

abbrev pub decreases-loop-at : goal.decreases-loop-at
decreases-loop-at l = length l.body_stamps - l.body
