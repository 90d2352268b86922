use Rattle.std.proofs.Common.{arith}
use Rattle.generator.proofs.Calls.{two-bodies}
use Rattle.generator.proofs.Loops.{drawn_first, drawn_next, manifolds, manifolds-none, manifolds_size, manifolds_turn, pair_size}
use Rattle.generator.proofs.Generator.draw_manifolds.Goals as goal

pub loop-i-init : goal.loop-i-init
loop-i-init c =
    let s = c.args.self.now.state in
    drawn_first 2 (manifolds s c.args.bodies.count) s c.args.file.now (manifolds-none s c.args.bodies.count)

pub draw_pair-requires-clause-room : goal.draw_pair-requires-clause-room
draw_pair-requires-clause-room c =
    let w = c.loop-i.invariant.wrote in
    omega (arith, w.next, w.long, manifolds_size c.args.self.now.state c.args.bodies.count c.loop-i.i, c.requires.room)

pub draw_pair-requires-clause-bodies : goal.draw_pair-requires-clause-bodies
draw_pair-requires-clause-bodies c = two-bodies c.args.bodies.count c.args.count 0 c.requires.bodies (omega arith)

pub loop-i-preserved : goal.loop-i-preserved
loop-i-preserved c =
    let s = c.args.self.now.state in
    let b = c.args.bodies.count in
    let l = c.loop-i in
    let p = c.draw_pair.ensures in
    drawn_next _ l.invariant (manifolds_turn s b l.i l.self.state l.invariant.state_left) p.wrote
    (omega (arith, manifolds_size s b l.i, pair_size b l.self.state, c.requires.room)) p.state
