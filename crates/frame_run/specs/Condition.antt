-- Condition 3 of the code: what an accepted call of `run` leaves and answers, beside every schedule of its frame.
use Rattle.std.specs.Prelude.{ℕ, ◌≡◌, List, Result}
use Rattle.lists.specs.Basics.{over, join_map}
use Rattle.frame.specs.Files.{second, decode}
use Rattle.schedules.specs.Runs.{Plans, Orders, schedule, report_of, rising, turn_of}
use Rattle.schedules.specs.Condition.{Schedule, Condition3}
use Rattle.frame.specs.declared.refusal.Refusal.{Refusal}
use Rattle.run_answer.specs.declared.Report.{Report}
use Rattle.run_answer.specs.Lent.{Lent}
use Rattle.run_answer.specs.Answers.{run_report, reported}
use Rattle.frame_run.specs.Calls.{refusal_in, Ran}

-- the schedule meets condition 3; the run reports its islands, turns and takes, and D, and its turns are those of the rising orders
pub record Conditioned (bs : List ℕ) (l m : Lent) (r : Result Report Refusal) (p : Plans) (o : Orders) : Type 0 where
  pub condition : Condition3 bs (decode bs) p o
  pub report : run_report r ≡ reported (report_of (decode bs) (schedule (decode bs) p o))
  pub turns : m.turns ≡ over (join_map turn_of (schedule (decode bs) p (rising p))) l.turns

-- of every call that the contract of `run` allows and that is accepted, and every schedule of its frame
abbrev pub Claim : Type 0
Claim = (bs : List ℕ) (l m : Lent) (r : Result Report Refusal) (p : Plans) (o : Orders) → refusal_in bs l ≡ 0 → Ran bs l m r → Schedule (second bs) (decode bs) p o → Conditioned bs l m r p o
