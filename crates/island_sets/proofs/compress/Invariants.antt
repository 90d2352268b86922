-- `island_sets::compress` meets its contract. A link set to the root of its body changes no root, and the way goes on from where the link led before, with one link less to go.
use Rattle.island_sets.specs.Sets.{links_of}
use Rattle.island_sets.proofs.Ways.{Way}
use Rattle.island_sets.proofs.compress.Given as goal

abbrev pub invariant-loop-body : goal.invariant-loop-body
invariant-loop-body l = Way l.initial.parents l.root l.parents l.body

abbrev pub decreases-loop-body : goal.decreases-loop-body
decreases-loop-body l = links_of l.initial.parents l.body
