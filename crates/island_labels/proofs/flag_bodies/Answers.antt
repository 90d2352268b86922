-- The loop's body gets its flag.
use Rattle.std.proofs.Common.{arith}
use Rattle.island_labels.proofs.Numbering.{flagging_turns}
use Rattle.island_labels.proofs.flag_bodies.Goals as goal

pub loop-body-preserved : goal.loop-body-preserved
loop-body-preserved c =
    let a = c.args in
    let l = c.loop-body in
    flagging_turns a.body_types.now a.body_islands.now l.body_islands l.body l.invariant c.requires (omega (arith, l.invariant.long, c.requires)) c.pick.result c.pick.ensures
