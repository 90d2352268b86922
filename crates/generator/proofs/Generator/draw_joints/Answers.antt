use Rattle.std.proofs.Common.{arith}
use Rattle.generator.proofs.Calls.{two-bodies}
use Rattle.generator.proofs.Loops.{drawn_first, drawn_next, joints, joints-none, joints_size, joints-next, joint_size}
use Rattle.generator.proofs.Generator.draw_joints.Goals as goal

pub loop-i-init : goal.loop-i-init
loop-i-init c =
    let s = c.args.self.now.state in
    drawn_first 3 (joints s c.args.bodies.count) s c.args.file.now (joints-none s c.args.bodies.count)

pub draw_joint-requires-clause-room : goal.draw_joint-requires-clause-room
draw_joint-requires-clause-room c =
    let w = c.loop-i.invariant.wrote in
    omega (arith, w.next, w.long, joints_size c.args.self.now.state c.args.bodies.count c.loop-i.i, c.requires.room)

pub draw_joint-requires-clause-bodies : goal.draw_joint-requires-clause-bodies
draw_joint-requires-clause-bodies c = two-bodies c.args.bodies.count 0 c.args.count c.requires.bodies (omega arith)

pub loop-i-preserved : goal.loop-i-preserved
loop-i-preserved c =
    let s = c.args.self.now.state in
    let b = c.args.bodies.count in
    let l = c.loop-i in
    let p = c.draw_joint.ensures in
    drawn_next _ l.invariant (joints-next s b l.i l.self.state l.invariant.state_left) p.wrote
    (omega (arith, joints_size s b l.i, joint_size b l.self.state, c.requires.room)) p.state
