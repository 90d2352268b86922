-- `run`: a refusal by questions 1 to 6 is the run's and changes nothing; otherwise the tables have room, and are cut to the sizes that were read.
use Rattle.std.proofs.lemmas.Result.{err_from_is_err_and}
use Rattle.frame_run.proofs.Entry.{stopped_run, cuttable}
use Rattle.frame_run.proofs.run.Goals as goal

pub returns-in_err-asked-clause-ran : goal.returns-in_err-asked-clause-ran
returns-in_err-asked-clause-ran c =
    let p = err_from_is_err_and c.from_residual.result c.from_residual.ensures.1 in
    rw (p.1, p.2) (stopped_run _ _ _ c.in_err-asked.ensures)

pub run_cut-requires : goal.run_cut-requires
run_cut-requires c = cuttable _ _ _ c.in_ok-asked.ensures
