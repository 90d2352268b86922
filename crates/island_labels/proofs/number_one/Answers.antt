-- `island_labels::number_one` meets its contract: the root that the lookup answers has a place in the table.
use Rattle.std.proofs.Common.{nat_eq, get_or, arith}
use Rattle.lists.proofs.Bits.{byte_one}
use Rattle.island_sets.proofs.Weights.{root_inside}
use Rattle.island_labels.specs.Labels.{unnumbered}
use Rattle.island_labels.proofs.Numbering.{stepped}
use Rattle.island_labels.proofs.number_one.Goals as goal

pub bounds-body_islands-root : goal.bounds-body_islands-root
bounds-body_islands-root c =
    omega (arith, c.root_of-found.ensures.root, root_inside c.args.parents.now c.requires.balanced.0 c.requires.balanced.1.weighed c.args.body c.requires.inside.1, c.requires.inside.0)

pub returns : goal.returns
returns c =
    let a = c.args in
    let r = c.root_of-found in
    let t = nat_eq (get_or a.body_islands.now r.result.root 0) unnumbered in
    stepped a.parents.now a.body_islands.now a.body a.count r.result.root r.ensures.root
    (omega (arith, r.ensures.root, root_inside a.parents.now c.requires.balanced.0 c.requires.balanced.1.weighed a.body c.requires.inside.1, c.requires.inside.0))
    c.pick-number.result c.pick-place.result (rw c.from-root.ensures at c.pick-number.ensures) (rw c.from-root.ensures at c.pick-place.ensures) _ (omega (arith, byte_one t, rw c.from-root.ensures at c.from.ensures))
