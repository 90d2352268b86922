-- `island_joins::join_each` meets its contract. At each turn the constraints before are joined and passed question 7; the first that does not pass decides the answer.
use Rattle.island_joins.proofs.Joining.{Joining}
use Rattle.island_joins.proofs.join_each.Given as goal

abbrev pub invariant-loop-constraint : goal.invariant-loop-constraint
invariant-loop-constraint g l = Joining l.body_types (g.C.Constraints.left l.fn.constraints) (g.C.Constraints.left l.constraint-iterator) l.initial.sets l.initial.body_islands l.sets l.body_islands
