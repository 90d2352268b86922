-- `draw_joint`: the enabled byte stands behind the pair and is drawn behind it.
use Rattle.std.proofs.Common.{arith}
use Rattle.writer.proofs.Writes.{wrote_then}
use Rattle.generator.proofs.Loops.{enabled_is, joint_state, pair_size}
use Rattle.generator.proofs.Generator.draw_joint.Goals as goal

pub put_byte-requires : goal.put_byte-requires
put_byte-requires c =
    let w = c.draw_pair.ensures.wrote in
    omega (arith, w.next, w.long, pair_size c.args.bodies.count c.args.self.now.state, c.requires.room)

pub returns-clause-wrote : goal.returns-clause-wrote
returns-clause-wrote c =
    let s = c.args.self.now.state in
    let d = c.draw in
    let p = c.draw_pair.ensures in
    rw (← enabled_is s c.draw_pair.new.self.state d.new.self.state d.result p.state d.ensures.state d.ensures.drawn.0)
    (wrote_then p.wrote c.put_byte.ensures (omega (arith, pair_size c.args.bodies.count s, c.requires.room)))

pub returns-clause-state : goal.returns-clause-state
returns-clause-state c = joint_state c.args.self.now.state _ _ c.draw_pair.ensures.state c.draw.ensures.state
