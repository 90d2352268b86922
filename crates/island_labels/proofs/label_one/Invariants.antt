-- `island_labels::label_one`: the least of the labels so far and of those to come is the least of all.
use Rattle.island_labels.proofs.Labelling.{Least}
use Rattle.island_labels.proofs.label_one.Given as goal

abbrev pub invariant-loop-body : goal.invariant-loop-body
invariant-loop-body l = Least l.body_islands l.constraint.ends.now l.least l.body-index
