-- `island::build_front` meets its contract: what stands on the first places, with the rest of each table behind it, is what the contract says.
use Rattle.std.proofs.Common.{length, ◌∙◌, length-take-le}
use Rattle.island.proofs.Entry.{built_front}
use Rattle.island.proofs.build_front.Goals as goal

pub returns-clause-built : goal.returns-clause-built
returns-clause-built c =
    let r = c.requires in
    let b = c.build_sized in
    let n = length c.args.lists.types.now in
    let t = c.args.tables.now in
    built_front _ _ _ _ r b.new.parents b.new.sizes b.new.body_islands b.new.manifold_islands b.new.joint_islands b.result b.ensures
    (b.auto.parents ∙ length-take-le n t.parents.now r.parents)
    (b.auto.sizes ∙ length-take-le n t.sizes.now r.sizes)
