-- `island_labels::label_each`: there are as many constraints left as labels, these constraints pass question 7, and the labels so far and
-- those of the constraints left make up them all.
use Rattle.std.proofs.Common.{◌≡◌, ◌+◌, true, ◌++◌, map, length, take}
use Rattle.lists.specs.Basics.{all}
use Rattle.frame.specs.Frames.{sound}
use Rattle.island_labels.specs.Labels.{label_by}
use Rattle.island_labels.proofs.label_each.Given as goal

abbrev pub invariant-loop-number : goal.invariant-loop-number
invariant-loop-number g l =
    (l.number-iterator.count + length (g.C.Constraints.left l.number-iterator.iter) ≡ length l.labels)
    × (all (sound (length l.body_islands)) (g.C.Constraints.left l.number-iterator.iter) ≡ true)
    × (take l.number-iterator.count l.labels ++ map (label_by l.body_islands) (g.C.Constraints.left l.number-iterator.iter) ≡ map (label_by l.body_islands) (g.C.Constraints.left l.fn.constraints))
