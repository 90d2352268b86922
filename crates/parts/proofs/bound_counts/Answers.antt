-- One constraint more: its count is added to the endpoints before it, which all together fit 16 bits.
use Rattle.std.proofs.Common.{◌+◌, ◌≡◌, arith, length}
use Rattle.parts.specs.Steps.{ends_before}
use Rattle.parts.proofs.Bounds.{ends_more, ends_up, ends-all, bounds_more}
use Rattle.parts.proofs.bound_counts.Goals as goal

pub overflow_add-end : goal.overflow_add-end
overflow_add-end c =
    let counts = c.args.counts.now in
    let at = c.loop-constraint.constraint in
    omega (arith, c.loop-constraint.invariant.0, ends_more counts at (omega arith), ends-all counts, ends_up counts (at + 1) (length counts) (omega arith))

pub loop-constraint-preserved : goal.loop-constraint-preserved
loop-constraint-preserved c =
    let v = c.loop-constraint.invariant in
    let e : c.loop-constraint.end + c.from-end.result ≡ ends_before c.args.counts.now (c.loop-constraint.constraint + 1) =
    omega (arith, v.0, c.from-end.ensures, ends_more c.args.counts.now c.loop-constraint.constraint (omega arith)) in
    (e, bounds_more c.args.counts.now c.loop-constraint.bounds c.loop-constraint.constraint c.loop-constraint.end _ (omega arith) v.0 e v.1)
