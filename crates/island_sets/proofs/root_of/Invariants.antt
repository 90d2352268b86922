-- `island_sets::root_of` meets its contract. Each body on the way has the root of `body`, and each link followed is one less to go, so the way ends, where a body is its own parent.
use Rattle.std.proofs.Common.{◌+◌, ◌<◌, ◌≡◌, length}
use Rattle.island_sets.specs.Sets.{root_of, links_of}
use Rattle.island_sets.proofs.root_of.Given as goal

abbrev pub invariant-loop-root : goal.invariant-loop-root
invariant-loop-root l = (l.root < length l.parents) × (root_of l.parents l.root ≡ root_of l.parents l.body) × (l.links + links_of l.parents l.root ≡ links_of l.parents l.body)

abbrev pub decreases-loop-root : goal.decreases-loop-root
decreases-loop-root l = links_of l.parents l.root
