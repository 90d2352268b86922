-- `island_joins::join_frame` meets its contract: a frame's constraints are its manifolds and then its joints.
use Rattle.island_joins.proofs.Joining.{tried_both}
use Rattle.island_sets.proofs.Keeps.{kept_on}
use Rattle.island_joins.proofs.join_frame.Goals as goal

pub returns-clause-joined : goal.returns-clause-joined
returns-clause-joined c = tried_both c.join_each.ensures c.if-not-join_each.false c.join_joints.ensures

pub returns-clause-same : goal.returns-clause-same
returns-clause-same c = kept_on c.join_each.ensures.kept c.join_joints.ensures.kept
