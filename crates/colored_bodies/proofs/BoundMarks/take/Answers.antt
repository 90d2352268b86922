-- Positions that pass question 9 are places, and so are the lower and the higher of them; the rest is what `take_each` ensures.
use Rattle.std.proofs.Common.{◌<◌, ◌∙◌, sym, refl, arith, lt-ltb}
use Rattle.std.proofs.lemmas.Result.{err_from_is_err_and}
use Rattle.colored_bodies.proofs.Pairs.{placed-room, marks_unplaced, marks_taken, marks_refused}
use Rattle.colored_bodies.proofs.BoundMarks.take.Goals as goal
use Rattle.colored_bodies.proofs.BoundMarks.take.Goals.{Else-not-placed_in}

places : (c : Else-not-placed_in) → (c.args.a < 4096) × (c.args.b < 4096)
places c = placed-room _ _ _ (sym c.placed_in.ensures ∙ c.if-not-placed_in.false)

pub returns-then-not-placed_in-clause-taken : goal.returns-then-not-placed_in-clause-taken
returns-then-not-placed_in-clause-taken c bodies = marks_unplaced bodies _ _ _ _ (sym c.placed_in.ensures ∙ c.if-not-placed_in.true)

pub bounds-self-a : goal.bounds-self-a
bounds-self-a c = (places (goal.at.bounds-self-a c).Else-not-placed_in).0

pub bounds-self-b : goal.bounds-self-b
bounds-self-b c = (places (goal.at.bounds-self-b c).Else-not-placed_in).1

pub overflow_cast-min : goal.overflow_cast-min
overflow_cast-min c = let h = places (goal.at.overflow_cast-min c).Else-not-placed_in in omega (arith, h.0, h.1)

pub overflow_cast-max : goal.overflow_cast-max
overflow_cast-max c = let h = places (goal.at.overflow_cast-max c).Else-not-placed_in in omega (arith, h.0, h.1)

pub take_each-requires : goal.take_each-requires
take_each-requires c =
    let h = places (goal.at.take_each-requires c).Else-not-placed_in in
    rw (lt-ltb c.min.result 4096 (omega (arith, h.0, h.1)), lt-ltb c.max.result 4096 (omega (arith, h.0, h.1)))

pub returns-in_err-take_each-clause-taken : goal.returns-in_err-take_each-clause-taken
returns-in_err-take_each-clause-taken c bodies =
    let p = err_from_is_err_and c.from_residual.result c.from_residual.ensures.1 in
    rw (p.1, p.2) (marks_refused bodies _ _ _ _ _ _ _ _ (sym c.placed_in.ensures ∙ c.if-not-placed_in.false) c.min.ensures c.max.ensures c.in_err-take_each.ensures _ refl)

pub returns-clause-taken : goal.returns-clause-taken
returns-clause-taken c bodies = marks_taken bodies _ _ _ _ _ _ _ _ (sym c.placed_in.ensures ∙ c.if-not-placed_in.false) c.min.ensures c.max.ensures c.in_ok-take_each.ensures refl
