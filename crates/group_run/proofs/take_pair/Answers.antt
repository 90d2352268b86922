-- `take_pair`: by the lookup's answer: positions are taken as the marks allow, a refusal leaves them.
use Rattle.std.proofs.Common.{[]}
use Rattle.std.proofs.lemmas.Result.{err_from_is_err_and}
use Rattle.group_run.proofs.Takes.{pair_is_taken, pair_refused}
use Rattle.group_run.proofs.take_pair.Goals as goal

pub returns-in_err-places : goal.returns-in_err-places
returns-in_err-places c =
    let p = err_from_is_err_and c.from_residual.result c.from_residual.ensures.1 in
    rw (p.1, p.2) (pair_refused _ _ _ _ _ _ _ c.requires _ _ _ c.in_err-places.ensures)

pub returns-in_err-marked : goal.returns-in_err-marked
returns-in_err-marked c =
    let p = err_from_is_err_and c.from_residual-in_err-marked.result c.from_residual-in_err-marked.ensures.1 in
    rw (p.1, p.2) (pair_is_taken _ _ _ _ _ _ _ c.requires _ _ _ c.in_ok-places.ensures _ _ (rw (c.from.ensures, c.from-2.ensures) at (c.in_err-marked.ensures.taken [])) c.in_err-marked.ensures.same)

pub returns : goal.returns
returns c = rw c.pair_taken.ensures (pair_is_taken _ _ _ _ _ _ _ c.requires _ _ _ c.in_ok-places.ensures _ _ (rw (c.from.ensures, c.from-2.ensures) at (c.in_ok-marked.ensures.taken [])) c.in_ok-marked.ensures.same)
