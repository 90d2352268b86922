use Rattle.std.proofs.Common.{arith}
use Rattle.gathering.proofs.Collects.{collecting_none, collecting_more}
use Rattle.gathering.proofs.collect.Goals as goal

pub loop-at-init : goal.loop-at-init
loop-at-init c = collecting_none _ _ _

pub loop-at-preserved : goal.loop-at-preserved
loop-at-preserved c =
    rw c.from-at.ensures (collecting_more c.args.stamp c.args.body_stamps.now c.args.part.now c.loop-at.part c.loop-at.body c.loop-at.at c.loop-at.invariant c.requires.1 (omega arith))
