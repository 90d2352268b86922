-- `read_line`: the first field that can't be read decides.
use Rattle.std.proofs.Common.{sym, ◌∙◌, arith}
use Rattle.lift_line.proofs.Fields.{none_1, none_2, none_3, none_4, none_5, all_read}
use Rattle.lift_line.proofs.read_line.Goals as goal

pub returns-in_err-seed : goal.returns-in_err-seed
returns-in_err-seed c = c.from_residual.ensures ∙ sym (none_1 c.args.text.now 0 0 0 c.in_err-seed.ensures)

pub returns-in_err-bodies : goal.returns-in_err-bodies
returns-in_err-bodies c =
    let a = c.in_ok-seed.ensures in
    c.from_residual-in_err-bodies.ensures ∙ sym (none_2 c.args.text.now c.in_ok-seed.seed.end 0 0 a.2 a.0 c.in_err-bodies.ensures)

pub returns-in_err-manifolds : goal.returns-in_err-manifolds
returns-in_err-manifolds c =
    let a = c.in_ok-seed.ensures in
    let b = c.in_ok-bodies.ensures in
    c.from_residual-in_err-manifolds.ensures ∙ sym (none_3 c.args.text.now c.in_ok-seed.seed.end c.in_ok-bodies.bodies.end 0 a.2 a.0 b.2 b.0 c.in_err-manifolds.ensures)

pub returns-in_err-joints : goal.returns-in_err-joints
returns-in_err-joints c =
    let a = c.in_ok-seed.ensures in
    let b = c.in_ok-bodies.ensures in
    let m = c.in_ok-manifolds.ensures in
    c.from_residual-in_err-joints.ensures
    ∙ sym (none_4 c.args.text.now c.in_ok-seed.seed.end c.in_ok-bodies.bodies.end c.in_ok-manifolds.manifolds.end a.2 a.0 b.2 b.0 m.2 m.0 c.in_err-joints.ensures)

pub returns-in_default : goal.returns-in_default
returns-in_default c =
    let a = c.in_ok-seed.ensures in
    let b = c.in_ok-bodies.ensures in
    let m = c.in_ok-manifolds.ensures in
    let j = c.in_ok-joints.ensures in
    sym (none_5 c.args.text.now c.in_ok-seed.seed.end c.in_ok-bodies.bodies.end c.in_ok-manifolds.manifolds.end a.2 a.0 b.2 b.0 m.2 m.0 j.0 (omega (arith, a.1, c.in_default.ensures)))

pub returns : goal.returns
returns c =
    let a = c.in_ok-seed.ensures in
    let b = c.in_ok-bodies.ensures in
    let m = c.in_ok-manifolds.ensures in
    let j = c.in_ok-joints.ensures in
    let s = c.in-Ok.ensures in
    rw (s.1, a.1, b.1, m.1, j.1) (sym (all_read c.args.text.now c.in_ok-seed.seed.end c.in_ok-bodies.bodies.end c.in_ok-manifolds.manifolds.end a.2 a.0 b.2 b.0 m.2 m.0 j.0 (omega (arith, s.0, a.1))))
