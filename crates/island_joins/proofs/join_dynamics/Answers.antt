-- `island_joins::join_dynamics` meets its contract: the first dynamic body is joined with one more of those behind it.
use Rattle.island_sets.proofs.Keeps.{kept_here}
use Rattle.island_joins.proofs.Joining.{joins_none, starring_starts, starring_turns, starring_ends}
use Rattle.island_joins.proofs.join_dynamics.Goals as goal

pub loop-other-init : goal.loop-other-init
loop-other-init c = (c.in-Some.ensures, starring_starts _ _ _ _ c.in-Some.ensures c.args.sets.now c.requires.0)

pub loop-other-preserved : goal.loop-other-preserved
loop-other-preserved c =
    let l = c.loop-other in
    let j = c.join_dynamic in
    (l.invariant.0, starring_turns _ _ _ _ l.invariant.0 c.args.sets.now l.sets l.other-index l.invariant.1 j.new.sets c.loop-other-test.true j.ensures.0 j.ensures.1)

pub returns-after-loop-other : goal.returns-after-loop-other
returns-after-loop-other c =
    let l = c.loop-other in
    (l.invariant.1.kept, starring_ends _ _ _ _ l.invariant.0 c.args.sets.now l.sets l.other-index l.invariant.1 c.loop-other-test.false)

pub returns-in_default : goal.returns-in_default
returns-in_default c = (kept_here c.args.sets.now, joins_none c.args.body_types.now c.args.ends.now c.args.sets.now.parents.now c.in_default.ensures)
