use Rattle.std.proofs.Common.{◌-◌, ◌≡◌, arith}
use Rattle.printing.proofs.Lines.{ends_begin, ends_turn, ends-end}
use Rattle.printing.proofs.put_ends.Goals as goal

pub loop-i-init : goal.loop-i-init
loop-i-init c = ends_begin c.args.frame.now c.args.ends.at c.args.ends.count c.args.out.now c.requires

pub loop-i-preserved : goal.loop-i-preserved
loop-i-preserved c =
    let a = c.args in
    ends_turn a.frame.now a.ends.at a.ends.count _ _ c.loop-i.i c.loop-i.invariant _ _ c.half_or_zero.ensures.0 c.loop-i-test.true c.put_number.ensures

pub returns : goal.returns
returns c =
    let a = c.args in
    let last : a.ends.count - 1 ≡ c.loop-i.i = omega arith in
    ends-end a.frame.now a.ends.at a.ends.count _ _ c.loop-i.i c.loop-i.invariant _ _ (rw last at c.half_or_zero-2.ensures.0) (omega (arith, a.ends.few)) c.put_number-2.ensures
