-- What the exported calls answer: each cites the contract of the call it wraps, and gives that call's answer as numbers.
use Rattle.std.specs.Prelude.{ℕ, ◌≡◌, cond, Result, List, [], ◌∷◌, eqb, length, get_or, take, drop}
use Rattle.std.specs.Borrow.{Bor}
use Rattle.lists.specs.Basics.{one, four}
use Rattle.constraint_coloring.specs.declared.Update.{Update}
use Rattle.constraint_coloring.specs.declared.ConstraintColoring.{ConstraintColoring}
use Rattle.plan_questions.specs.Plans.{Tables, group_part}
use Rattle.constraint_coloring.specs.Calls.{update_number, update_changed, plan_after, Updated, positions_values, Located}
use Rattle.colored_bodies.specs.declared.BodyBinding.{BodyBinding}
use Rattle.colored_bodies.specs.declared.Taken.{Taken}
use Rattle.frame.specs.declared.refusal.Refusal.{Refusal}
use Rattle.frame.specs.Refusals.{refused_by}
use Rattle.colored_bodies.specs.declared.multi.TakenAt.{TakenAt}
use Rattle.colored_bodies.specs.Answers.{Takes, TakesAt}
use Rattle.multi_coloring.specs.declared.MultiColoring.{MultiColoring}
use Rattle.multi_coloring.specs.Calls.{MultiUpdated, MultiLocated}
use Rattle.constraint_coloring.specs.Numbers.{plan_of_numbers, plan_numbers}
use Rattle.answer_numbers.specs.Numbers.{multi_plan_of_numbers, multi_plan_numbers, position_numbers, handed_numbers, taken_numbers}
use Rattle.run_answer.specs.declared.Report.{Report}
use Rattle.run_answer.specs.Answers.{run_report}
use Rattle.run_answer.specs.Lent.{Lent}
use Rattle.frame_run.specs.Calls.{Ran}

-- ---- updates and lookups

-- an update of a plan with the tables t, which are left as u
pub record Updates (plan flags pairs : List ℕ) (t u : Tables) (number changed : ℕ) (left : List ℕ) : Type 0 where
  pub answer : Update ConstraintColoring
  pub updated : Updated (plan_of_numbers plan) flags pairs t u answer
  pub refusal : number ≡ update_number answer
  pub change : changed ≡ one (update_changed answer)
  pub plan_left : left ≡ plan_numbers (plan_after (plan_of_numbers plan) answer)

-- the part of group k of n groups: where it starts in the table, and its size; an empty part starts at 0
pub record Found (n : ℕ) (offsets table : List ℕ) (k start size : ℕ) : Type 0 where
  pub part : take size (drop start table) ≡ group_part n offsets table k
  pub as_long : size ≡ length (group_part n offsets table k)
  pub from_offset : start ≡ cond (eqb size 0) 0 (get_or offsets k 0)

-- a lookup of the positions of constraint r of n
pub record Locates (n : ℕ) (table : List ℕ) (r number : ℕ) (places : List ℕ) : Type 0 where
  pub answer : Result (Bor (List ℕ)) Refusal
  pub located : Located n table r answer
  pub refusal : number ≡ refused_by answer
  pub numbers : places ≡ position_numbers answer

-- ---- the same of a plan with counts

-- an update of a plan with the tables t and the counts c, which are left as u and c'
pub record MultiUpdates (plan flags ends counts : List ℕ) (t : Tables) (c : List ℕ) (u : Tables) (c' : List ℕ) (number changed : ℕ) (left : List ℕ) : Type 0 where
  pub answer : Update MultiColoring
  pub updated : MultiUpdated (multi_plan_of_numbers plan) flags ends counts t c u c' answer
  pub refusal : number ≡ update_number answer
  pub change : changed ≡ one (update_changed answer)
  pub plan_left : left ≡ multi_plan_numbers (plan_after (multi_plan_of_numbers plan) answer)

-- a lookup of the positions of constraint r of n, and how many they are
pub record MultiLocates (n : ℕ) (counts table : List ℕ) (r number : ℕ) (places : List ℕ) (count : ℕ) : Type 0 where
  pub answer : Result (Bor (List ℕ)) Refusal
  pub located : MultiLocated n counts table r answer
  pub refusal : number ≡ refused_by answer
  pub numbers : places ≡ four (positions_values answer)
  pub counted : count ≡ length (positions_values answer)

-- ---- bindings

-- a take of the positions ps from the binding b, which is left so
pub record Took (b : BodyBinding) (ps : List ℕ) (left : BodyBinding) (number : ℕ) (handed : List ℕ) : Type 0 where
  pub answer : Result Taken Refusal
  pub takes : Takes b ps answer left
  pub refusal : number ≡ refused_by answer
  pub numbers : handed ≡ handed_numbers answer

-- a take of two to four positions
pub record TookAt (b : BodyBinding) (ps : List ℕ) (left : BodyBinding) (number : ℕ) (handed : List ℕ) : Type 0 where
  pub answer : Result TakenAt Refusal
  pub takes : TakesAt b ps answer left
  pub refusal : number ≡ refused_by answer
  pub numbers : handed ≡ taken_numbers answer

-- ---- the run

-- a report as four numbers: islands, turns, takes of dynamic bodies, and the largest number of constraints on one dynamic body
abbrev pub report_numbers : Report → List ℕ
report_numbers r = r.islands ∷ r.turns ∷ r.takes ∷ r.degree ∷ []

-- a run of the file bs on the tables l, which are left as m
pub record Runs (bs : List ℕ) (l m : Lent) (number : ℕ) (report : List ℕ) : Type 0 where
  pub answer : Result Report Refusal
  pub ran : Ran bs l m answer
  pub refusal : number ≡ refused_by answer
  pub numbers : report ≡ report_numbers (run_report answer)
