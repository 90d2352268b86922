-- Takes by marks, as the run makes them, beside takes by value, as `pair_at` and `bodies_at` make them.
use Rattle.std.specs.Prelude.{ℕ, ◌≡◌, Bool, Result, List, [], ◌∷◌}
use Rattle.frame.specs.declared.refusal.Refusal.{Refusal}
use Rattle.groups.specs.Groups.{Plan}
use Rattle.colored_bodies.specs.declared.BodyBinding.{BodyBinding}
use Rattle.colored_bodies.specs.declared.Marked.{Marked}
use Rattle.colored_bodies.specs.Bindings.{take_of}
use Rattle.colored_bodies.specs.Answers.{with_bodies, with_bodies_at, Takes, Marks, TakesAt, MarksAt}
use Rattle.schedules.specs.Runs.{calls_from}
use Rattle.turn_table.specs.declared.Turn.{Turn}
use Rattle.turn_table.specs.Turns.{added_by_take}
use Rattle.group_run.specs.Appends.{added_by, marks_only, pair_taken, counted_taken}

-- a binding once a take has left these marks
abbrev pub leaving : BodyBinding → List ℕ → BodyBinding
leaving b left = record { bodies = b.bodies; marks = left; count = b.count }

-- the take r adds the turn and the takes that the take by value of the positions ps adds, for whatever island, group and constraint
abbrev pub AddsTake : BodyBinding → List ℕ → Result ℕ Refusal → Type 0
AddsTake b ps r = (t : Turn) → added_by_take t r ≡ added_by (record { island = t.island; group = t.group; constraint = t.number; refusal = (take_of b ps).refusal; handed = (take_of b ps).handed } ∷ [])

-- a take by marks of the positions x and y from the binding b, with the answer r and the marks left
pub record ByValue (b : BodyBinding) (x y : ℕ) (r : Result Marked Refusal) (left : List ℕ) : Type 0 where
  -- with the bodies at its positions it is the take by value, which leaves the same marks
  pub taken : Takes b (x ∷ y ∷ []) (with_bodies b.bodies x y r) (leaving b left)
  -- and it adds what that adds
  pub added : AddsTake b (x ∷ y ∷ []) (pair_taken r)

abbrev pub MarksAreTakes : Type 0
MarksAreTakes = (b : BodyBinding) (x y : ℕ) (r : Result Marked Refusal) (left : List ℕ) → Marks b (x ∷ y ∷ []) r left → ByValue b x y r left

-- the same of two to four positions
pub record ByValueAt (b : BodyBinding) (ps : List ℕ) (r : Result (List Bool) Refusal) (left : List ℕ) : Type 0 where
  pub taken : TakesAt b ps (with_bodies_at b.bodies ps r) (leaving b left)
  pub added : AddsTake b ps (counted_taken r)

abbrev pub CountedMarksAreTakes : Type 0
CountedMarksAreTakes = (b : BodyBinding) (ps : List ℕ) (r : Result (List Bool) Refusal) (left : List ℕ) → MarksAt b ps r left → ByValueAt b ps r left

-- the takes of a group, in any order, add the same from a binding and from its marks and count alone
abbrev pub GroupsByMarks : Type 0
GroupsByMarks = (p : Plan) (ns : List ℕ) (i k : ℕ) (b : BodyBinding) (rs : List ℕ) → added_by (calls_from p ns i k b rs) ≡ added_by (calls_from p ns i k (marks_only b.marks b.count) rs)
