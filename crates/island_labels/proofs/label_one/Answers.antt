-- A live constraint that passes question 7 has its bodies inside the table.
use Rattle.island_labels.proofs.Labelling.{bodies_in, least-starts, least_turns}
use Rattle.island_labels.proofs.label_one.Goals as goal

pub loop-body-init : goal.loop-body-init
loop-body-init c = least-starts c.args.body_islands.now c.args.constraint.ends.now

pub bounds-body_islands-from : goal.bounds-body_islands-from
bounds-body_islands-from c = rw c.from.ensures (bodies_in c.args.body_islands.now c.args.constraint c.loop-body.body-index c.if-not-constraint.false c.requires c.loop-body-test.true)

pub loop-body-preserved : goal.loop-body-preserved
loop-body-preserved c =
    let l = c.loop-body in
    least_turns c.args.body_islands.now c.args.constraint.ends.now l.least l.body-index _ l.invariant c.loop-body-test.true
    (bodies_in c.args.body_islands.now c.args.constraint l.body-index c.if-not-constraint.false c.requires c.loop-body-test.true) (rw c.from.ensures at c.min-least.ensures)
