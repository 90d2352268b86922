-- Answers as numbers: plans with counts, positions, and the bodies that a take hands.
use Rattle.std.specs.Prelude.{ℕ, false, Result, Ok, Err, List, [], ◌∷◌, map, get_or}
use Rattle.std.specs.List.{range_with_len}
use Rattle.std.specs.Borrow.{Bor}
use Rattle.lists.specs.Basics.{one}
use Rattle.frame.specs.declared.refusal.Refusal.{Refusal}
use Rattle.constraint_coloring.specs.Calls.{positions_values}
use Rattle.constraint_coloring.specs.Numbers.{plan_of_numbers, plan_numbers}
use Rattle.multi_coloring.specs.declared.MultiColoring.{MultiColoring}
use Rattle.colored_bodies.specs.declared.multi.TakenAt.{TakenAt}
use Rattle.colored_bodies.specs.declared.Handed.{Handed}
use Rattle.colored_bodies.specs.declared.Taken.{Taken}

-- positions in n places; those past the last are 0
abbrev pub placed : ℕ → List ℕ → List ℕ
placed n xs = map (λ (k : ℕ). get_or xs k 0) (range_with_len 0 n)

-- the positions of a constraint; both 0 where they are refused
abbrev pub position_numbers : Result (Bor (List ℕ)) Refusal → List ℕ
position_numbers answer = get_or (positions_values answer) 0 0 ∷ get_or (positions_values answer) 1 0 ∷ []

-- the bodies that a take hands: a body and 1 for "dynamic" or 0 for "read-only", twice; all 0 where it is refused
abbrev pub handed_numbers : Result Taken Refusal → List ℕ
handed_numbers (Ok t) = t.first.body ∷ one t.first.dynamic ∷ t.second.body ∷ one t.second.dynamic ∷ []
handed_numbers (Err r) = 0 ∷ 0 ∷ 0 ∷ 0 ∷ []

-- ---- of constraints that have a count each

abbrev pub multi_plan_of_numbers : List ℕ → MultiColoring
multi_plan_of_numbers p = record { plan = plan_of_numbers p }

abbrev pub multi_plan_numbers : MultiColoring → List ℕ
multi_plan_numbers p = plan_numbers p.plan

-- one of the four places of such a take
abbrev pub handed_in : List Handed → ℕ → Handed
handed_in hs place = get_or hs place (record { body = 0; dynamic = false })

-- the bodies that a take of two to four positions hands: four times a body and 1 for "dynamic" or 0 for "read-only"; 0 past the last, and
-- all 0 where it is refused
abbrev pub taken_numbers : Result TakenAt Refusal → List ℕ
taken_numbers (Err r) = 0 ∷ 0 ∷ 0 ∷ 0 ∷ 0 ∷ 0 ∷ 0 ∷ 0 ∷ []
taken_numbers (Ok t) =
    (handed_in t.handed 0).body ∷ one (handed_in t.handed 0).dynamic ∷ (handed_in t.handed 1).body ∷ one (handed_in t.handed 1).dynamic
    ∷ (handed_in t.handed 2).body ∷ one (handed_in t.handed 2).dynamic ∷ (handed_in t.handed 3).body ∷ one (handed_in t.handed 3).dynamic ∷ []
