-- What a part of the run adds to the turn table and to the takes.
use Rattle.std.specs.Prelude.{ℕ, ◌*◌, ◌≤◌, ◌≡◌, Bool, true, Result, Ok, Err, List, [], ◌∷◌, length}
use Rattle.lists.specs.Basics as lists
use Rattle.lists.specs.Basics.{join_map, range}
use Rattle.frame.specs.Frames.{counts_known, end_count}
use Rattle.groups.specs.Groups.{Plan}
use Rattle.constraint_coloring.specs.declared.ConstraintColoring.{ConstraintColoring}
use Rattle.constraint_coloring.specs.Calls.{plan_with}
use Rattle.colored_bodies.specs.declared.BodyBinding.{BodyBinding}
use Rattle.colored_bodies.specs.declared.BoundMarks.{BoundMarks}
use Rattle.parts.specs.Steps.{BoundsOf}
use Rattle.colored_bodies.specs.declared.Marked.{Marked}
use Rattle.frame.specs.declared.refusal.Refusal.{Refusal}
use Rattle.frame.specs.Refusals.{refused_by}
use Rattle.colored_bodies.specs.Bindings.{bind_of}
use Rattle.colored_bodies.specs.Answers.{marked_dynamic}
use Rattle.schedules.specs.Runs.{Call, members_in, bodies_in, take_rank, calls_from, turn_of, turns_of, takes_of}
use Rattle.turn_table.specs.declared.TurnTable.{TurnTable}
use Rattle.turn_table.specs.Turns.{Added, AppendedTo}

-- ---- the calls

-- a plan as its lookups see it: what it carries, its counts if it has any, and the five tables that they read
abbrev pub seen : ConstraintColoring → List ℕ → List ℕ → List ℕ → List ℕ → List ℕ → List ℕ → Plan
seen p counts = plan_with p counts []

-- counts, the bounds that they make, and positions for all of them; where there are no counts, the constraints are pairs
pub record Countable (p : ConstraintColoring) (counts bounds positions : List ℕ) : Type 0 where
  pub constraints : (length counts ≡ 0 → ⊥) → p.constraint_count ≡ length counts
  pub few : length counts ≤ 8192
  pub known : counts_known counts ≡ true
  pub bounds_of : BoundsOf counts bounds
  pub long : length bounds ≡ 2 * length counts
  pub inside : end_count counts ≤ length positions

-- the takes of group k, with its members as the plan lists them; `ns` numbers the ranks of island i
unfoldable pub calls_in : Plan → List ℕ → List ℕ → ℕ → ℕ → List Call
calls_in p types ns i k = calls_from p ns i k (bind_of types (bodies_in p k)) (members_in p k)

-- the takes of all groups of a plan, in order
unfoldable pub plan_calls : Plan → List ℕ → List ℕ → ℕ → List Call
plan_calls p types ns i = join_map (calls_in p types ns i) (range p.groups)

-- ---- what they add

-- turns and takes
abbrev pub added_by : List Call → Added
added_by cs = record { turns = join_map turn_of (turns_of cs); takes = takes_of cs }

-- ---- a take by its marks

-- a binding of these marks; what a take adds does not depend on its bodies
abbrev pub marks_only : List ℕ → ℕ → BodyBinding
marks_only marks count = record { bodies = []; marks = marks; count = count }

-- the binding that lent marks are, without its bodies
abbrev pub marks_of : BoundMarks → BodyBinding
marks_of m = marks_only m.marks.now m.count

-- the table of marks is the one that was lent
abbrev pub SameLent : BoundMarks → BoundMarks → Type 0
SameLent old new = new.marks.ghost_name ≡ old.marks.ghost_name

-- how many bodies a take of two marks hands as dynamic, and a take of two to four
abbrev pub pair_taken : Result Marked Refusal → Result ℕ Refusal
pair_taken (Ok m) = Ok (lists.count (λ d. d) (marked_dynamic (Ok m)))
pair_taken (Err r) = Err r

abbrev pub counted_taken : Result (List Bool) Refusal → Result ℕ Refusal
counted_taken (Ok dynamic) = Ok (lists.count (λ d. d) dynamic)
counted_taken (Err r) = Err r

-- of a take that is refused none
abbrev pub dynamic_taken : Result ℕ Refusal → ℕ
dynamic_taken (Ok n) = n
dynamic_taken (Err r) = 0

-- the take of a rank: its refusal or 0, how many bodies it hands as dynamic, and the marks that it leaves
pub record RankTaken (p : Plan) (rank : ℕ) (old : BoundMarks) (r : Result ℕ Refusal) (new : BoundMarks) : Type 0 where
  pub refusal : refused_by r ≡ (take_rank p (marks_of old) rank).refusal
  pub dynamic : dynamic_taken r ≡ lists.count (λ h. h.dynamic) (take_rank p (marks_of old) rank).handed
  pub after : marks_of new ≡ (take_rank p (marks_of old) rank).after
  pub same : SameLent old new

-- a member taken: what it adds, and the marks that it leaves
pub record MemberTaken (p : Plan) (ns : List ℕ) (i k rank : ℕ) (old : BoundMarks) (t : TurnTable) (new : BoundMarks) (t' : TurnTable) : Type 0 where
  pub added : AppendedTo (added_by (calls_from p ns i k (marks_of old) (rank ∷ []))) t t'
  pub after : marks_of new ≡ (take_rank p (marks_of old) rank).after
  pub same : SameLent old new
