-- A run whose tables, but for the turn table, have the largest frame's sizes.
use Rattle.std.specs.Prelude.{ℕ, ◌+◌, ◌*◌, ◌≡◌, Bool, not, List, leb, eqb, length, Result, is_err}
use Rattle.lists.specs.Basics.{over}
use Rattle.frame.specs.Files.{count_m, count_j}
use Rattle.frame.specs.declared.refusal.Refusal.{Refusal}
use Rattle.frame.specs.Refusals.{refused_by}
use Rattle.schedules.specs.Runs.{run_refusal, run_of}
use Rattle.run_answer.specs.declared.Report.{Report}
use Rattle.run_answer.specs.Answers.{run_report, reported}

-- question 6 of the turn table
abbrev pub roomy_turns : List ℕ → List ℕ → Bool
roomy_turns bs ts = leb (3 * (count_m bs + count_j bs)) (length ts)

-- the answer, and the turn table at entry and at exit
pub record RanAlone (bs ts ts' : List ℕ) (r : Result Report Refusal) : Type 0 where
  pub refusal : refused_by r ≡ run_refusal bs (roomy_turns bs ts)
  pub refused : is_err r ≡ not (eqb (run_refusal bs (roomy_turns bs ts)) 0)
  pub report : run_report r ≡ reported (run_of bs (roomy_turns bs ts))
  pub turns : ts' ≡ over (run_of bs (roomy_turns bs ts)).table ts
