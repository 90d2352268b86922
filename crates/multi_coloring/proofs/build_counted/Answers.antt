-- `build_counted`: the bounds of the counts have room, and a plan can be built by them; the parts by these bounds are the constraints by counts.
use Rattle.std.proofs.Common.{◌*◌, ◌≡◌, ◌∙◌, arith, length, length-take-le}
use Rattle.frame.proofs.Counted.{known-few}
use Rattle.parts.proofs.Bounds.{parts-counted, counted_bounded}
use Rattle.multi_coloring.proofs.Updates.{built_counts}
use Rattle.multi_coloring.proofs.build_counted.Goals as goal
use Rattle.multi_coloring.proofs.build_counted.Goals.{After-bound_counts}

bounds_long : (p : After-bound_counts) → length p.bound_counts.new.bounds ≡ 2 * length p.args.listed.counts.now
bounds_long p = p.bound_counts.auto.bounds ∙ length-take-le _ _ p.requires.room

pub bound_counts-requires : goal.bound_counts-requires
bound_counts-requires c = (length-take-le _ _ c.requires.room, c.args.listed.few, known-few _ c.args.listed.known c.args.listed.few)

pub invariant_of-ends : goal.invariant_of-ends
invariant_of-ends c =
    record { bounded = counted_bounded c.bound_counts.ensures (bounds_long (goal.at.invariant_of-ends c).After-bound_counts) c.args.listed.ends.now (omega (arith, c.args.listed.whole)) }

pub build_plan-requires : goal.build_plan-requires
build_plan-requires c = c.requires.buildable _ c.bound_counts.ensures (bounds_long (goal.at.build_plan-requires c).After-bound_counts)

pub returns : goal.returns
returns c =
    let p = (goal.at.returns c).After-bound_counts in
    built_counts c.args.listed.counts.now (rw (parts-counted c.bound_counts.ensures (bounds_long p) c.args.listed.ends.now) at c.build_plan.ensures)
