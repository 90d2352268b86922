-- `island::build_with_joints`: a "no" to one of the questions 3 to 6 writes nothing; after four "yes" the tables have room.
use Rattle.std.proofs.Common.{sym}
use Rattle.std.proofs.lemmas.Result.{err_from_is_err_and}
use Rattle.island.proofs.Entry.{pairs_room, pairs_kept, pairs_built}
use Rattle.island.proofs.build_with_joints.Goals as goal

pub returns-in_err-ask_pairs-clause-built : goal.returns-in_err-ask_pairs-clause-built
returns-in_err-ask_pairs-clause-built c =
    let p = err_from_is_err_and c.from_residual.result c.from_residual.ensures.1 in
    rw (p.1, p.2) (pairs_kept _ _ _ _ _ c.in_err-ask_pairs.field-0.0 c.in_err-ask_pairs.ensures)

pub build_front-requires : goal.build_front-requires
build_front-requires c = rw (c.asked.ensures.2, c.asked.ensures.1) (pairs_room _ _ _ _ _ (sym c.in_ok-ask_pairs.ensures))

pub returns-clause-built : goal.returns-clause-built
returns-clause-built c = pairs_built _ _ _ _ _ (sym c.in_ok-ask_pairs.ensures) _ _ (rw c.asked.ensures.2 at c.build_front.ensures.built)
