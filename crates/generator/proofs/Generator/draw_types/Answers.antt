use Rattle.std.proofs.Common.{arith}
use Rattle.generator.proofs.Loops.{drawn_first, drawn_next, one_step, types, types-none, types_size, types-next}
use Rattle.generator.proofs.Generator.draw_types.Goals as goal

pub loop-i-init : goal.loop-i-init
loop-i-init c = let s = c.args.self.now.state in drawn_first 1 (types s) s c.args.file.now (types-none s)

pub put_byte-requires : goal.put_byte-requires
put_byte-requires c =
    let w = c.loop-i.invariant.wrote in
    omega (arith, w.next, w.long, types_size c.args.self.now.state c.loop-i.i, c.requires)

pub loop-i-preserved : goal.loop-i-preserved
loop-i-preserved c =
    let s = c.args.self.now.state in
    let l = c.loop-i in
    let d = c.draw.ensures in
    drawn_next _ l.invariant (types-next s l.i l.self.state _ c.draw.result l.invariant.state_left d.state d.drawn.0) c.put_byte.ensures
    (omega (arith, types_size s l.i, c.requires)) (one_step _ _ d.state)
