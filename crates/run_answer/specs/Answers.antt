-- What a run answers: document 01's number, 0 where accepted, and the four carried numbers, all 0 where refused.
use Rattle.std.specs.Prelude.{ℕ, ◌/◌, ◌≡◌, Bool, not, cond, List, Result, Ok, Err, is_err, IfOk, eqb}
use Rattle.frame.specs.Questions.{asked}
use Rattle.frame.specs.Files.{second, count_b, count_m, count_j, file_questions}
use Rattle.schedules.specs.Runs as runs
use Rattle.turn_table.specs.declared.Tally.{Tally}
use Rattle.frame.specs.declared.Frame.{Frame}
use Rattle.frame.specs.declared.refusal.Refusal.{Refusal}
use Rattle.frame.specs.Answers.{sizes_of, no_sizes}
use Rattle.frame.specs.Refusals.{number_of, refused_by}
use Rattle.frame_tables.specs.declared.Filling.{Filling}
use Rattle.frame_tables.specs.Filled.{islands_in, degree_in}
use Rattle.run_answer.specs.declared.Report.{Report}
use Rattle.run_answer.specs.declared.Asked.{Asked}

-- the four numbers that a run reports
abbrev pub reported : runs.Report → Report
reported r = record { islands = r.islands; turns = r.turns; takes = r.takes; degree = r.degree }

-- those of an answer
abbrev pub run_report : Result Report Refusal → Report
run_report (Ok r) = r
run_report (Err n) = reported (runs.refused (number_of n))

-- what questions 1 to 6 of the file bs answer, where room answers the 6th by whether constraints have counts and by the sizes
abbrev pub asks_refusal : List ℕ → (Bool → ℕ → ℕ → ℕ → Bool) → ℕ
asks_refusal bs room = cond (eqb (asked (file_questions bs)) 0) (cond (room (second bs) (count_b bs) (count_m bs) (count_j bs)) 0 6) (asked (file_questions bs))

-- questions 1 to 6, and the sizes of a file that passes them
pub record Asks (bs : List ℕ) (room : Bool → ℕ → ℕ → ℕ → Bool) (r : Result Frame Refusal) : Type 0 where
  pub refusal : refused_by r ≡ asks_refusal bs room
  pub sizes : IfOk r (λ a. a ≡ sizes_of bs)

-- the same, and the sizes of a file that passes questions 1 to 5, also where 6 refuses it; of another all are 0
pub record AsksWithSizes (bs : List ℕ) (room : Bool → ℕ → ℕ → ℕ → Bool) (a : Asked) : Type 0 where
  pub refusal : refused_by a.refused ≡ asks_refusal bs room
  pub sizes : a.sizes ≡ cond (eqb (asked (file_questions bs)) 0) (sizes_of bs) no_sizes

-- the answer by a filling and a tally, three entries a turn
pub record AnswerOf (f : Result Filling Refusal) (t : Tally) (r : Result Report Refusal) : Type 0 where
  pub refusal : refused_by r ≡ refused_by f
  pub refused : is_err r ≡ not (eqb (refused_by f) 0)
  pub report : run_report r ≡ cond (eqb (refused_by f) 0)
      (record { islands = islands_in f; turns = t.place / 3; takes = t.takes; degree = degree_in f })
      (reported (runs.refused (refused_by f)))
