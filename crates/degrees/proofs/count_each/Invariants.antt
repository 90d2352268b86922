-- `degrees::count_each`: what is counted and the constraints left are the whole.
use Rattle.degrees.proofs.Counting.{Counting}
use Rattle.degrees.proofs.count_each.Given as goal

abbrev pub invariant-loop-constraint : goal.invariant-loop-constraint
invariant-loop-constraint g l = Counting l.types (g.C.Constraints.left l.fn.constraints) (g.C.Constraints.left l.constraint-iterator) l.initial.counts l.counts
