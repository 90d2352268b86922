-- A take of marks that is taken had at most four places, and with the bodies' numbers it is the whole take.
use Rattle.std.proofs.Common.{◌∙◌, arith}
use Rattle.std.proofs.lemmas.Result.{err_from_is_err_and}
use Rattle.colored_bodies.proofs.Positions.{taken_handable, takes_refused, takes_taken, entries_four, takes_at_leaving}
use Rattle.colored_bodies.proofs.multi.take_from.Goals as goal

pub returns-in_err-dynamic : goal.returns-in_err-dynamic
returns-in_err-dynamic c =
    let p = err_from_is_err_and c.from_residual.result c.from_residual.ensures.1 in
    let kept = c.in_err-dynamic.ensures.same.kept in
    rw (p.1, p.2) (takes_at_leaving (takes_refused _ _ _ _ (c.in_err-dynamic.ensures.taken c.args.bodies.now)) (grind (arith, kept)))

pub entries_at-numbers-requires : goal.entries_at-numbers-requires
entries_at-numbers-requires c = (omega arith, (omega arith, taken_handable _ _ _ _ (c.in_ok-dynamic.ensures.taken c.args.bodies.now)))

pub returns : goal.returns
returns c =
    let kept = c.in_ok-dynamic.ensures.same.kept in
    rw c.handed_each.ensures (takes_at_leaving (takes_taken _ _ _ _ _ (c.in_ok-dynamic.ensures.taken c.args.bodies.now) (c.entries_at-numbers.ensures ∙ entries_four _ _)) (grind (arith, kept)))
