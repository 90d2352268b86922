-- Questions 5 and 9 first; positions that pass are at most four places. The flags are read before `take_rising` marks anything.
use Rattle.std.proofs.Common.{refl}
use Rattle.std.proofs.lemmas.Result.{err_from_is_err_and}
use Rattle.colored_bodies.proofs.Positions.{ask_passed, handable, at_refused, at_gone, at_taken}
use Rattle.colored_bodies.proofs.BoundMarks.take_at.Goals as goal

pub returns-in_err-ask_refusal-clause-taken : goal.returns-in_err-ask_refusal-clause-taken
returns-in_err-ask_refusal-clause-taken c bodies =
    let p = err_from_is_err_and c.from_residual.result c.from_residual.ensures.1 in
    rw (p.1, p.2) (at_refused bodies _ _ _ _ c.in_err-ask_refusal.ensures)

pub dynamic_at-dynamic-requires : goal.dynamic_at-dynamic-requires
dynamic_at-dynamic-requires c = handable _ _ c.in_ok-ask_refusal.ensures

pub take_rising-requires : goal.take_rising-requires
take_rising-requires c = ask_passed _ _ c.in_ok-ask_refusal.ensures

pub returns-in_err-take_rising-clause-taken : goal.returns-in_err-take_rising-clause-taken
returns-in_err-take_rising-clause-taken c bodies =
    let p = err_from_is_err_and c.from_residual-in_err-take_rising.result c.from_residual-in_err-take_rising.ensures.1 in
    rw (p.1, p.2) (at_gone bodies _ _ _ _ _ c.in_ok-ask_refusal.ensures c.in_err-take_rising.ensures _ refl)

pub returns-clause-taken : goal.returns-clause-taken
returns-clause-taken c bodies = at_taken bodies _ _ _ _ _ c.in_ok-ask_refusal.ensures c.in_ok-take_rising.ensures _ refl c.dynamic_at-dynamic.ensures
