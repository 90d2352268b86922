-- Histories: updates of one plan on one set of tables, one after another, with nobody else writing between.
use Rattle.std.specs.Prelude.{ℕ, ◌≡◌, Bool, true, List, [], ◌∷◌, length, take}
use Rattle.frame.specs.Questions.{pair_count}
use Rattle.groups.specs.Groups.{Plan}
use Rattle.plan_questions.specs.Plans.{Tables, roomy}
use Rattle.constraint_coloring.specs.declared.ConstraintColoring.{ConstraintColoring}
use Rattle.constraint_coloring.specs.declared.Update.{Update}
use Rattle.constraint_coloring.specs.Calls.{update_number, update_changed, plan_after, carried, Updated}
use Rattle.plan_history.specs.Memory.{Memory, remembered, plan_for, Input, Answered}

-- an update's input with what question 6 finds, and its answer
abbrev pub input_of : List ℕ → List ℕ → Tables → Input
input_of flags pairs t = record { flags = flags; pairs = pairs; room = roomy (length flags) (pair_count pairs) t }

abbrev pub answer_of : {P : Type 0} → Update P → Answered
answer_of r = record { refusal = update_number r; changed = update_changed r }

-- a history leads from the plan p and the tables t to the plan q and the tables v; each step is an update by its contract
pub data History : ConstraintColoring → Tables → List Input → List Answered → ConstraintColoring → Tables → Type 0 where
  still : {p : ConstraintColoring} {t : Tables} → History p t [] [] p t
  step : {p q : ConstraintColoring} {t u v : Tables} {ins : List Input} {outs : List Answered} (flags pairs : List ℕ) (r : Update ConstraintColoring) → Updated p flags pairs t u r → History (plan_after p r) u ins outs q v → History p t (input_of flags pairs t ∷ ins) (answer_of r ∷ outs) q v

-- what is remembered after these inputs
abbrev pub memory_after : Memory → List Input → Memory
memory_after m [] = m
memory_after m (i ∷ ins) = memory_after (remembered m i.flags i.pairs i.room) ins

-- a list stands in the first places of a table
abbrev pub Stands : List ℕ → List ℕ → Type 0
Stands new table = take (length new) table ≡ new

-- tables hold these flags and endpoints, and what the plan d gives; the offset tables do from the first "changed" on
pub record Held (begun : Bool) (flags ends : List ℕ) (d : Plan) (t : Tables) : Type 0 where
  pub dynamic_bodies : Stands flags t.dynamic_bodies
  pub endpoints : Stands ends t.endpoints
  pub constraint_colors : Stands d.colors t.constraint_colors
  pub color_offsets : begun ≡ true → Stands d.color_offsets t.color_offsets
  pub colored_constraints : Stands d.colored_constraints t.colored_constraints
  pub color_body_offsets : begun ≡ true → Stands d.color_body_offsets t.color_body_offsets
  pub color_bodies : Stands d.color_bodies t.color_bodies
  pub constraint_body_positions : Stands d.positions t.constraint_body_positions

-- plan and tables hold what the definitions give for what is remembered
pub record Standing (begun : Bool) (m : Memory) (p : ConstraintColoring) (t : Tables) : Type 0 where
  pub plan : p ≡ carried (plan_for m)
  pub tables : Held begun m.flags m.pairs (plan_for m) t
