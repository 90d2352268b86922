-- `island::build_with_multi_joints`: a "no" to one of the questions 3 to 6 writes nothing; after four "yes" the tables have room.
use Rattle.std.proofs.Common.{sym, arith}
use Rattle.std.proofs.lemmas.Result.{err_from_is_err_and}
use Rattle.island.proofs.Entry.{counted_ends, counted_room, counted_kept, counted_built}
use Rattle.island.proofs.build_with_multi_joints.Goals as goal

pub returns-in_err-ask_counted-clause-built : goal.returns-in_err-ask_counted-clause-built
returns-in_err-ask_counted-clause-built c =
    let p = err_from_is_err_and c.from_residual.result c.from_residual.ensures.1 in
    rw (p.1, p.2) (counted_kept _ _ _ _ _ _ c.in_err-ask_counted.field-0.0 c.in_err-ask_counted.ensures)

pub asked-requires : goal.asked-requires
asked-requires c = omega (arith, counted_ends _ _ _ _ _ _ (sym c.in_ok-ask_counted.ensures))

pub build_front-requires : goal.build_front-requires
build_front-requires c = rw (c.asked.ensures.2, c.asked.ensures.1) (counted_room _ _ _ _ _ _ (sym c.in_ok-ask_counted.ensures))

pub returns-clause-built : goal.returns-clause-built
returns-clause-built c = counted_built _ _ _ _ _ _ (sym c.in_ok-ask_counted.ensures) _ _ (rw c.asked.ensures.2 at c.build_front.ensures.built)
