-- A plan as four numbers.
use Rattle.std.specs.Prelude.{ℕ, List, [], ◌∷◌, get_or}
use Rattle.constraint_coloring.specs.declared.ConstraintColoring.{ConstraintColoring}

-- bodies, constraints, groups, and the constraints of the largest group
abbrev pub plan_of_numbers : List ℕ → ConstraintColoring
plan_of_numbers p = record { body_count = get_or p 0 0; constraint_count = get_or p 1 0; color_count = get_or p 2 0; max_color_constraint_count = get_or p 3 0 }

abbrev pub plan_numbers : ConstraintColoring → List ℕ
plan_numbers p = p.body_count ∷ p.constraint_count ∷ p.color_count ∷ p.max_color_constraint_count ∷ []
