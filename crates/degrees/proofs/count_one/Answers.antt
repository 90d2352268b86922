-- `degrees::count_one`: a live constraint passes question 7, so its endpoints are places of the tables, and their counts fit.
use Rattle.degrees.proofs.Counting.{counted_dead}
use Rattle.degrees.proofs.Ends.{ends_there, ends_addable, counted-ends}
use Rattle.degrees.proofs.count_one.Goals as goal

pub touches-requires : goal.touches-requires
touches-requires c = ends_there _ _ _ _ c.requires c.if-constraint.true

pub count_ends-requires : goal.count_ends-requires
count_ends-requires c = rw c.from-one.ensures (ends_addable _ _ _ _ c.requires c.if-constraint.true _ c.touches.ensures)

pub returns-then-constraint : goal.returns-then-constraint
returns-then-constraint c = counted-ends _ _ _ _ c.requires c.if-constraint.true _ c.touches.ensures _ (rw c.from-one.ensures at c.count_ends.ensures)

pub returns-else-constraint : goal.returns-else-constraint
returns-else-constraint c = counted_dead _ _ _ c.if-constraint.false
