-- Lanes of the code: the turns in the turn table that an accepted call of `run` leaves.
use Rattle.std.specs.Prelude.{ℕ, ◌<◌, ◌≡◌, List, Result}
use Rattle.frame.specs.Files.{decode}
use Rattle.schedules.specs.Lanes.{ApartIn}
use Rattle.frame.specs.declared.refusal.Refusal.{Refusal}
use Rattle.run_answer.specs.declared.Report.{Report}
use Rattle.run_answer.specs.Lent.{Lent}
use Rattle.run_answer.specs.Answers.{run_report}
use Rattle.frame_run.specs.Calls.{refusal_in, Ran}

-- two different turns of one island and group have no body that makes conflicts on both constraints
abbrev pub RunApart : Type 0
RunApart = (bs : List ℕ) (l m : Lent) (r : Result Report Refusal) (a b : ℕ) → refusal_in bs l ≡ 0 → Ran bs l m r → a < b → b < (run_report r).turns → ApartIn (decode bs) m.turns a b
