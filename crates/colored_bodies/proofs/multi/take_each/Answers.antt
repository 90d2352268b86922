use Rattle.std.proofs.Common.{◌≡◌, ◌∙◌, get_or}
use Rattle.colored_bodies.specs.Bindings.{spend}
use Rattle.colored_bodies.proofs.Positions.{each_gone, each_turn, each_end}
use Rattle.colored_bodies.proofs.multi.take_each.Goals as goal

pub returns-then-marks-at-gt-HELD : goal.returns-then-marks-at-gt-HELD
returns-then-marks-at-gt-HELD c =
    let stop = each_gone c.loop-i.marks c.args.places.now c.loop-i.i c.loop-i-test.true (rw c.from-at.ensures at c.if-marks-at-gt-HELD.true) in
    (c.gone_at.ensures ∙ stop.0 ∙ c.loop-i.invariant.0, stop.1 ∙ c.loop-i.invariant.1)

pub loop-i-preserved : goal.loop-i-preserved
loop-i-preserved c =
    let spent : c.take_body.new.marks ≡ spend c.loop-i.marks (get_or c.args.places.now c.loop-i.i 0) = cc in
    let turn = each_turn c.loop-i.marks c.args.places.now c.loop-i.i c.loop-i-test.true _ (rw c.from-at.ensures at c.if-marks-at-gt-HELD.false) spent in
    (turn.0 ∙ c.loop-i.invariant.0, turn.1 ∙ c.loop-i.invariant.1)

pub returns : goal.returns
returns c =
    let end = each_end c.loop-i.marks c.args.places.now c.loop-i.i c.loop-i-test.false in
    (end.0 ∙ c.loop-i.invariant.0, end.1 ∙ c.loop-i.invariant.1)
