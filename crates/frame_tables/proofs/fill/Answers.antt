-- `fill`: after the decoding the tables hold the file's frame, so the islands call asks only question 7; the labels it leaves can be sorted.
use Rattle.std.proofs.Common.{refl}
use Rattle.std.proofs.lemmas.Result.{err_from_is_err_and}
use Rattle.frame_tables.proofs.Tables.{countable, sort_ready, filled, unfilled}
use Rattle.frame_tables.proofs.fill.Goals as goal

pub sort-requires-clause-in_bounds : goal.sort-requires-clause-in_bounds
sort-requires-clause-in_bounds c =
    let r = c.requires in
    let b = c.build-built.ensures in
    (sort_ready c.args.frame.now r.decodable.file _ _ _ _ _ _ r.decodable.manifolds c.decode.ensures.decoded _ c.lists_in-lists.ensures _ _ _ _ _ _ r.roomy _ c.build-built.result b.built _ _ refl c.unwrap_or.ensures b.same.long_manifold_islands b.same.long_joint_islands).0

pub sort-requires-clause-labels : goal.sort-requires-clause-labels
sort-requires-clause-labels c =
    let r = c.requires in
    let b = c.build-built.ensures in
    (sort_ready c.args.frame.now r.decodable.file _ _ _ _ _ _ r.decodable.manifolds c.decode.ensures.decoded _ c.lists_in-lists.ensures _ _ _ _ _ _ r.roomy _ c.build-built.result b.built _ _ refl c.unwrap_or.ensures b.same.long_manifold_islands b.same.long_joint_islands).1.0

pub returns-in_err-islands-clause-filled : goal.returns-in_err-islands-clause-filled
returns-in_err-islands-clause-filled c =
    let r = c.requires in
    let b = c.build-built.ensures in
    let p = err_from_is_err_and c.from_residual.result c.from_residual.ensures.1 in
    rw (p.1, p.2) (unfilled c.args.frame.now r.decodable.file _ _ _ _ _ _ r.decodable.manifolds c.decode.ensures.decoded _ c.lists_in-lists.ensures _ _ _ _ _ _ r.roomy _ c.build-built.result b.built _ _ refl c.unwrap_or.ensures _ c.sort.ensures _ c.in_err-islands.was)

pub degree_of-degree-requires : goal.degree_of-degree-requires
degree_of-degree-requires c =
    let r = c.requires in
    countable c.args.frame.now r.decodable.file _ _ _ _ _ _ r.decodable.manifolds c.decode.ensures.decoded _ c.lists_in-lists.ensures _ _ _ _ _ _ r.roomy _ c.build-built.result c.build-built.ensures.built

pub returns-clause-filled : goal.returns-clause-filled
returns-clause-filled c =
    let r = c.requires in
    filled c.args.frame.now r.decodable.file _ _ _ _ _ _ r.decodable.manifolds c.decode.ensures.decoded _ c.lists_in-lists.ensures _ _ _ _ _ _ r.roomy _ c.build-built.result c.build-built.ensures.built _ _ refl c.unwrap_or.ensures _ c.sort.ensures _ _ c.in_ok-islands.was c.degree_of-degree.ensures
