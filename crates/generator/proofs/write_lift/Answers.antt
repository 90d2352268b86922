-- `write_lift`: header, types, manifolds and joints, each behind the one before.
use Rattle.std.proofs.Common.{◌∙◌, refl, arith}
use Rattle.frame.proofs.Questions.{few-each}
use Rattle.generator.proofs.Calls.{fewer_pairs}
use Rattle.frame_file.proofs.Whole.{header_long}
use Rattle.frame_file.proofs.Decoded.{pair_bytes_long}
use Rattle.generator.specs.Draws.{pairs_drawn}
use Rattle.generator.proofs.Draws.{types_long, pairs_long}
use Rattle.generator.proofs.Whole.{whole_put}
use Rattle.generator.proofs.write_lift.Goals as goal

pub overflow_cast-bodies : goal.overflow_cast-bodies
overflow_cast-bodies c = omega (arith, few-each c.args.sizes.bodies c.args.sizes.manifolds c.args.sizes.joints c.requires.few)

pub invariant_of-bodies : goal.invariant_of-bodies
invariant_of-bodies c =
    let s = c.args.sizes in
    record { few = (few-each s.bodies s.manifolds s.joints c.requires.few).0 }

pub draw_types-requires : goal.draw_types-requires
draw_types-requires c =
    let w = c.put_header.ensures in
    omega (arith, w.next, w.long, header_long c.args.sizes.bodies c.args.sizes.manifolds c.args.sizes.joints, c.requires.room)

pub draw_manifolds-requires-clause-room : goal.draw_manifolds-requires-clause-room
draw_manifolds-requires-clause-room c =
    let s = c.args.sizes in
    let w = c.put_header.ensures in
    let v = c.draw_types.ensures.wrote in
    omega (arith, w.next, w.long, header_long s.bodies s.manifolds s.joints, v.next, v.long, types_long s.bodies c.args.seed, c.requires.room)

pub draw_manifolds-requires-clause-bodies : goal.draw_manifolds-requires-clause-bodies
draw_manifolds-requires-clause-bodies c =
    let s = c.args.sizes in
    fewer_pairs s.bodies s.manifolds s.joints s.manifolds 0 c.requires.pairs (omega arith)

pub draw_joints-requires-clause-room : goal.draw_joints-requires-clause-room
draw_joints-requires-clause-room c =
    let s = c.args.sizes in
    let w = c.put_header.ensures in
    let v = c.draw_types.ensures.wrote in
    let u = c.draw_manifolds.ensures.wrote in
    let t = c.draw_types.new.self.state in
    omega (arith, w.next, w.long, header_long s.bodies s.manifolds s.joints, v.next, v.long, types_long s.bodies c.args.seed, u.next, u.long, pair_bytes_long (pairs_drawn s.bodies 0 2 s.manifolds t), pairs_long s.bodies 0 2 s.manifolds t, c.requires.room)

pub draw_joints-requires-clause-bodies : goal.draw_joints-requires-clause-bodies
draw_joints-requires-clause-bodies c =
    let s = c.args.sizes in
    fewer_pairs s.bodies s.manifolds s.joints 0 s.joints c.requires.pairs (omega arith)

pub returns : goal.returns
returns c =
    let s = c.args.sizes in
    let h = c.put_header in
    let t = c.draw_types in
    let m = c.draw_manifolds in
    let j = c.draw_joints in
    let whole = whole_put c.args.seed s.bodies s.manifolds s.joints c.requires.few _ h.new.file t.new.file m.new.file j.new.file t.new.self.state m.new.self.state
    refl c.requires.room h.ensures t.ensures.wrote t.ensures.state m.ensures.wrote m.ensures.state j.ensures in
    let kept = j.ensures.kept ∙ m.ensures.wrote.kept ∙ t.ensures.wrote.kept ∙ h.ensures.kept in
    grind (arith, whole, kept)
