-- `island_joins::join_dynamics` meets its contract: the first dynamic body is joined with those before the loop's place.
use Rattle.island_joins.specs.Joins.{FirstDynamic}
use Rattle.island_joins.proofs.Joining.{Starring}
use Rattle.island_joins.proofs.join_dynamics.Given as goal

abbrev pub invariant-loop-other : goal.invariant-loop-other
invariant-loop-other l = (f : FirstDynamic l.body_types l.ends l.first l.others) × Starring l.body_types l.ends l.first l.others f l.initial.sets l.sets l.other-index
