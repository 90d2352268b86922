-- `degrees::touches`: the tests passed, and those to come, are those of all endpoints.
use Rattle.std.proofs.Common.{[]}
use Rattle.frame.specs.Frames.{frame_of, dynamic, touches}
use Rattle.degrees.proofs.Ends.{any_turn, any_last}
use Rattle.degrees.proofs.touches.Goals as goal

pub loop-end-preserved : goal.loop-end-preserved
unfolding dynamic
loop-end-preserved c = rw c.from.ensures (any_turn (dynamic (frame_of c.args.types.now [] [] [])) c.args.ends.now c.loop-end.end-index c.loop-end.touched c.loop-end-test.true c.loop-end.invariant)

pub returns : goal.returns
unfolding touches
returns c = any_last (dynamic (frame_of c.args.types.now [] [] [])) c.args.ends.now c.loop-end.end-index c.loop-end.touched c.loop-end-test.false c.loop-end.invariant
