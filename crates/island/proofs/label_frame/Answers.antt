-- `island::label_frame` meets its contract: the numbering gives the bodies' labels, and from them come the constraints'.
use Rattle.std.proofs.Common.{rules}
use Rattle.island.proofs.Whole.{numberable, asks_manifolds, asks_joints, labelled}
use Rattle.island.proofs.label_frame.Goals as goal

pub number-islands-requires : goal.number-islands-requires
number-islands-requires c = numberable _ _ _ _ _ c.requires

pub label_each-requires : goal.label_each-requires
label_each-requires c =
    let n = c.number-islands in
    let long = c.requires.sized.long_manifolds in
    let sound = asks_manifolds _ _ _ _ _ c.requires n.result n.new.body_islands n.ensures n.auto.body_islands in
    search rules

pub label_joints-requires : goal.label_joints-requires
label_joints-requires c =
    let n = c.number-islands in
    (c.requires.sized.long_joints, asks_joints _ _ _ _ _ c.requires n.result n.new.body_islands n.ensures n.auto.body_islands)

pub returns : goal.returns
returns c =
    let n = c.number-islands in
    labelled _ _ _ _ _ c.requires n.result n.new.body_islands n.ensures n.auto.body_islands
    c.label_each.new.labels c.label_joints.new.labels c.label_each.ensures c.label_joints.ensures
