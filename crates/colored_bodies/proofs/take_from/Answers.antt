-- A take of marks that is taken was placed, and with the bodies' numbers it is the whole take.
use Rattle.std.proofs.Common.{refl, arith}
use Rattle.std.proofs.lemmas.Result.{err_from_is_err_and}
use Rattle.colored_bodies.proofs.Pairs.{marks_placed, takes_by, takes_leaving}
use Rattle.colored_bodies.proofs.take_from.Goals as goal

pub returns-in_err-marked : goal.returns-in_err-marked
returns-in_err-marked c =
    let p = err_from_is_err_and c.from_residual.result c.from_residual.ensures.1 in
    let kept = c.in_err-marked.ensures.same.kept in
    rw (p.1, p.2) (takes_leaving (takes_by _ _ _ _ _ (c.in_err-marked.ensures.taken c.args.bodies.now) _ refl) (grind (arith, kept)))

pub offset_bounds-bodies-a : goal.offset_bounds-bodies-a
offset_bounds-bodies-a c = omega (arith, marks_placed _ _ _ _ _ (c.in_ok-marked.ensures.taken c.args.bodies.now) _ refl)

pub bounds-bodies-a : goal.bounds-bodies-a
bounds-bodies-a c = (marks_placed _ _ _ _ _ (c.in_ok-marked.ensures.taken c.args.bodies.now) _ refl).0

pub offset_bounds-bodies-b : goal.offset_bounds-bodies-b
offset_bounds-bodies-b c = omega (arith, marks_placed _ _ _ _ _ (c.in_ok-marked.ensures.taken c.args.bodies.now) _ refl)

pub bounds-bodies-b : goal.bounds-bodies-b
bounds-bodies-b c = (marks_placed _ _ _ _ _ (c.in_ok-marked.ensures.taken c.args.bodies.now) _ refl).1

pub returns : goal.returns
returns c =
    let kept = c.in_ok-marked.ensures.same.kept in
    takes_leaving (takes_by _ _ _ _ _ (c.in_ok-marked.ensures.taken c.args.bodies.now) _ refl) (grind (arith, kept))
