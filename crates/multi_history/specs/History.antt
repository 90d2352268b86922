-- Histories: updates of one plan with counts on one set of tables, one after another, with nobody else writing between.
use Rattle.std.specs.Prelude.{ℕ, ◌≡◌, Bool, List, [], ◌∷◌}
use Rattle.plan_questions.specs.Plans.{Tables}
use Rattle.plan_history.specs.Memory.{Answered}
use Rattle.plan_history.specs.History.{answer_of, Stands, Held}
use Rattle.multi_coloring.specs.declared.MultiColoring.{MultiColoring}
use Rattle.constraint_coloring.specs.declared.Update.{Update}
use Rattle.constraint_coloring.specs.Calls.{plan_after}
use Rattle.multi_coloring.specs.Calls.{multi_carried, multi_roomy, MultiUpdated}
use Rattle.multi_history.specs.Memory.{MultiMemory, multi_remembered, multi_plan_for, MultiInput}

-- an update's input with what question 6 finds in the tables and the counts
abbrev pub multi_input_of : List ℕ → List ℕ → List ℕ → Tables → List ℕ → MultiInput
multi_input_of flags ends counts t c = record { flags = flags; ends = ends; counts = counts; room = multi_roomy t c flags ends counts }

-- a history leads from the plan p, the tables t and the counts c to the plan q, the tables v and the counts e; each step is an update by its contract
pub data MultiHistory : MultiColoring → Tables → List ℕ → List MultiInput → List Answered → MultiColoring → Tables → List ℕ → Type 0 where
  still : {p : MultiColoring} {t : Tables} {c : List ℕ} → MultiHistory p t c [] [] p t c
  step : {p q : MultiColoring} {t u v : Tables} {c d e : List ℕ} {ins : List MultiInput} {outs : List Answered} (flags ends counts : List ℕ) (r : Update MultiColoring) → MultiUpdated p flags ends counts t c u d r → MultiHistory (plan_after p r) u d ins outs q v e
      → MultiHistory p t c (multi_input_of flags ends counts t c ∷ ins) (answer_of r ∷ outs) q v e

-- what is remembered after these inputs
abbrev pub multi_memory_after : MultiMemory → List MultiInput → MultiMemory
multi_memory_after m [] = m
multi_memory_after m (i ∷ ins) = multi_memory_after (multi_remembered m i.flags i.ends i.counts i.room) ins

-- plan, tables and counts hold what the definitions give for what is remembered
pub record MultiStanding (begun : Bool) (m : MultiMemory) (p : MultiColoring) (t : Tables) (c : List ℕ) : Type 0 where
  pub plan : p ≡ multi_carried (multi_plan_for m)
  pub tables : Held begun m.flags m.ends (multi_plan_for m) t
  pub counts : Stands m.counts c
