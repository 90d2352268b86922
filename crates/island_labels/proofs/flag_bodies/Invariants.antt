-- `island_labels::flag_bodies` meets its contract. The bodies before the loop's have their flags, the others are as they were.
use Rattle.island_labels.proofs.Numbering.{Flagging}
use Rattle.island_labels.proofs.flag_bodies.Given as goal

abbrev pub invariant-loop-body : goal.invariant-loop-body
invariant-loop-body l = Flagging l.body_types l.initial.body_islands l.body_islands l.body
