-- One more body is not dynamic, or it is the first that is.
use Rattle.std.proofs.Common.{refl}
use Rattle.island_joins.proofs.Joining.{first_none, first_turns, first_found}
use Rattle.island_joins.proofs.first_dynamic.Goals as goal

pub loop-place-init : goal.loop-place-init
loop-place-init c = record { skipped = refl; inside = c.requires }

pub loop-place-preserved : goal.loop-place-preserved
loop-place-preserved c =
    first_turns c.args.body_types.now c.args.ends.now c.loop-place.place c.loop-place.invariant c.loop-place-test.true (rw c.from.ensures at c.if-body_types-from-eq-DYNAMIC.false)

pub returns-then-body_types-from-eq-DYNAMIC : goal.returns-then-body_types-from-eq-DYNAMIC
returns-then-body_types-from-eq-DYNAMIC c =
    rw c.split_at.ensures.back (first_found c.args.body_types.now c.args.ends.now c.loop-place.place c.loop-place.invariant c.loop-place-test.true (rw c.from.ensures at c.if-body_types-from-eq-DYNAMIC.true))

pub returns : goal.returns
returns c = first_none c.args.body_types.now c.args.ends.now c.loop-place.place c.loop-place.invariant c.loop-place-test.false
