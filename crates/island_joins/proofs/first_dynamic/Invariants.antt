-- `island_joins::first_dynamic` meets its contract: the dynamic bodies are those from the loop's place on.
use Rattle.island_joins.proofs.Joining.{Searching}
use Rattle.island_joins.proofs.first_dynamic.Given as goal

abbrev pub invariant-loop-place : goal.invariant-loop-place
invariant-loop-place l = Searching l.body_types l.ends l.place
