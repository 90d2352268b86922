use Rattle.std.proofs.Common.{arith}
use Rattle.gathering.proofs.Ends.{next-body}
use Rattle.gathering.proofs.Counts.{counted_none, counted-add, counted_next, counted-fits, counted-byte}
use Rattle.gathering.proofs.stamp_part.Goals as goal

pub loop-body-init : goal.loop-body-init
loop-body-init c = counted_none _ _ 0

pub overflow_add-count : goal.overflow_add-count
overflow_add-count c = omega (arith, counted-fits c.requires (next-body c.args.bodies.now c.loop-body.body-index (omega arith)) c.loop-body.invariant (counted-byte _ c.stamp_body.ensures c.from-count.ensures))

pub loop-body-preserved : goal.loop-body-preserved
loop-body-preserved c =
    counted_next c.loop-body.invariant (next-body c.args.bodies.now c.loop-body.body-index (omega arith)) (counted-add c.loop-body.count (counted-byte _ c.stamp_body.ensures c.from-count.ensures))
