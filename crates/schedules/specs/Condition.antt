-- Condition 3: one claim about each accepted frame and each whole schedule of it.
use Rattle.std.specs.Prelude.{ℕ, ◌-◌, ◌*◌, ◌≤◌, ◌<◌, ◌≡◌, Bool, true, false, cond, List, [], map, eqb, length}
use Rattle.lists.specs.Basics.{one, count, join_map}
use Rattle.frame.specs.Frames.{Frame, conflicting, constraint_at, on, touches, none, turn_count, degree_sum, degree_max}
use Rattle.frame.specs.Files.{second, decode, frame_refusal}
use Rattle.connected_sets.specs.Islands.{island_count, label, of_island}
use Rattle.groups.specs.Groups.{Plan}
use Rattle.constraint_coloring.specs.declared.ConstraintColoring.{ConstraintColoring}
use Rattle.constraint_coloring.specs.declared.Update.{Update}
use Rattle.plan_questions.specs.Plans.{Tables, roomy}
use Rattle.constraint_coloring.specs.Calls.{fresh_plan, plan_after, plan_with, Updated}
use Rattle.multi_coloring.specs.declared.MultiColoring.{MultiColoring}
use Rattle.multi_coloring.specs.Calls.{fresh_multi, multi_roomy, numbers_of, MultiUpdated}
use Rattle.colored_bodies.specs.declared.Handed.{Handed}
use Rattle.schedules.specs.Runs.{Call, Plans, Orders, flags, pairs_for, counts_for, plan_at, members_in, schedule, rising, run_calls, turn_of, turns_of, takes_of, run_of}

-- two lists of exactly the same numbers, each as often
abbrev pub SameNumbers : List ℕ → List ℕ → Type 0
SameNumbers xs ys = (n : ℕ) → count (eqb n) xs ≡ count (eqb n) ys

-- ---- the schedules of a frame

-- a plan as it stands after an update: what it carries, its counts if it has any, and its tables
abbrev pub standing : ConstraintColoring → List ℕ → Tables → Plan
standing p counts t = plan_with p counts t.constraint_colors t.color_offsets t.colored_constraints t.color_body_offsets t.color_bodies t.constraint_body_positions

-- the update of island i on a fresh plan, whatever its tables held before, as the contract of `update` says
pub record PlannedPairs (f : Frame) (i : ℕ) (p : Plan) : Type 0 where
  pub before : Tables
  pub after : Tables
  pub answer : Update ConstraintColoring
  pub room : roomy (length f.types) (length (of_island f i)) before ≡ true
  pub updated : Updated fresh_plan (flags f) (pairs_for f i) before after answer
  pub stands : p ≡ standing (plan_after fresh_plan answer) [] after

-- the same with a count each, as the contract of the counted `update` says
pub record PlannedCounts (f : Frame) (i : ℕ) (p : Plan) : Type 0 where
  pub before : Tables
  pub counts_before : List ℕ
  pub after : Tables
  pub counts_after : List ℕ
  pub answer : Update MultiColoring
  pub room : multi_roomy before counts_before (flags f) (pairs_for f i) (counts_for true f i) ≡ true
  pub updated : MultiUpdated fresh_multi (flags f) (pairs_for f i) (counts_for true f i) before counts_before after counts_after answer
  pub stands : p ≡ standing (numbers_of (plan_after fresh_multi answer)) counts_after after

-- by the version: with counts on version 2
abbrev pub Planned : Bool → Frame → ℕ → Plan → Type 0
Planned false f i p = PlannedPairs f i p
Planned true f i p = PlannedCounts f i p

-- a schedule: an update for each island, and in each group any list of exactly that group's members, each once
pub record Schedule (counted : Bool) (f : Frame) (p : Plans) (o : Orders) : Type 0 where
  pub plans : (i : ℕ) → i < island_count f → Planned counted f i (p i)
  pub orders : (i k : ℕ) → i < island_count f → k < (p i).groups → SameNumbers (o i k) (members_in (p i) k)

-- ---- the claim

-- what constraint n is to be handed: its endpoints in the frame, in their order, each "dynamic" (it makes conflicts) or "read-only" by its type
abbrev pub due : Frame → ℕ → List Handed
due f n = map (λ b. record { body = b; dynamic = conflicting f b }) (constraint_at f n).ends

-- how often the calls take constraint n
abbrev pub takes_on : ℕ → List Call → ℕ
takes_on n cs = count (λ c. eqb n c.constraint) cs

-- the most groups of an island, by D: r * (D - 1) + 1 where constraints have at most r endpoints, four on version 2 and two on version 1
abbrev pub most_groups : Bool → ℕ → ℕ
most_groups counted d = cond counted (4 * d - 3) (2 * d - 1)

pub record Condition3 (bs : List ℕ) (f : Frame) (p : Plans) (o : Orders) : Type 0 where
  -- every take succeeds
  pub succeed : map (λ c. c.refusal) (schedule f p o) ≡ map (λ c. 0) (schedule f p o)
  -- and hands its constraint exactly its bodies
  pub handed : map (λ c. c.handed) (schedule f p o) ≡ map (λ c. due f c.constraint) (schedule f p o)
  -- a constraint that touches a dynamic body is taken once in the whole frame, any other never
  pub once : (n : ℕ) → takes_on n (schedule f p o) ≡ one (touches f (constraint_at f n))
  -- turns = constraints touching a dynamic body
  pub turns : length (turns_of (schedule f p o)) ≡ turn_count f
  -- takes = the sum over dynamic and logged bodies of the constraints with an island on each, read from the frame
  pub takes : takes_of (schedule f p o) ≡ degree_sum f
  -- no island has more than 2 × D - 1 groups on version 1, 4 × D - 3 on version 2
  pub few : (i : ℕ) → i < island_count f → (p i).groups ≤ most_groups (second bs) (degree_max f)
  -- a disabled joint is on no body, touches none, has no island and is never taken
  pub disabled : (n : ℕ) → (constraint_at f n).live ≡ false
      → ((b : ℕ) → on b (constraint_at f n) ≡ false) × (touches f (constraint_at f n) ≡ false) × (label f (constraint_at f n) ≡ none) × (takes_on n (schedule f p o) ≡ 0)
  -- the run reports these numbers, and a turn for each take of the schedule with rising members
  pub report : run_of bs true ≡ record {
    refusal = 0;
    islands = island_count f;
    turns = turn_count f;
    takes = degree_sum f;
    degree = degree_max f;
    table = join_map turn_of (schedule f p (rising p));
  }

-- of every file that is accepted, and every schedule of its frame
abbrev pub Claim : Type 0
Claim = (bs : List ℕ) (p : Plans) (o : Orders) → frame_refusal bs ≡ 0 → Schedule (second bs) (decode bs) p o → Condition3 bs (decode bs) p o

-- ---- that there are schedules

-- orders that permute the members of the definition's plan, group by group
abbrev pub Permuted : Bool → Frame → Orders → Type 0
Permuted counted f o = (i k : ℕ) → i < island_count f → k < (plan_at counted f i).groups → SameNumbers (o i k) (members_in (plan_at counted f i) k)

-- tables and a table of counts for each island, with room for its update
abbrev pub Roomy : Bool → Frame → (ℕ → Tables) → (ℕ → List ℕ) → Type 0
Roomy false f t c = (i : ℕ) → i < island_count f → roomy (length f.types) (length (of_island f i)) (t i) ≡ true
Roomy true f t c = (i : ℕ) → i < island_count f → multi_roomy (t i) (c i) (flags f) (pairs_for f i) (counts_for true f i) ≡ true

-- what an update found
abbrev pub Found : (counted : Bool) (f : Frame) (i : ℕ) (p : Plan) → Planned counted f i p → Tables → List ℕ → Type 0
Found false f i p u t c = u.before ≡ t
Found true f i p u t c = (u.before ≡ t) × (u.counts_before ≡ c)

-- a schedule whose updates find these tables; its orders may depend on its plans
pub record Scheduled (counted : Bool) (f : Frame) (t : ℕ → Tables) (c : ℕ → List ℕ) (o : Plans → Orders) : Type 0 where
  pub plans : Plans
  pub made : Schedule counted f plans (o plans)
  pub found : (i : ℕ) (l : i < island_count f) → Found counted f i (plans i) (made.plans i l) (t i) (c i)

-- of every file that is accepted: for any tables with room and any such orders there is a schedule; there are tables with room
abbrev pub Exist : Type 0
Exist = (bs : List ℕ) (t : ℕ → Tables) (c : ℕ → List ℕ) (o : Orders) → frame_refusal bs ≡ 0 → Roomy (second bs) (decode bs) t c → Permuted (second bs) (decode bs) o → Scheduled (second bs) (decode bs) t c (λ p. o)

abbrev pub RoomExists : Type 0
RoomExists = (counted : Bool) (f : Frame) → (t : ℕ → Tables) × (c : ℕ → List ℕ) × Roomy counted f t c

-- there is one with rising orders, and each such schedule is the run
abbrev pub RisingExists : Type 0
RisingExists = (bs : List ℕ) (t : ℕ → Tables) (c : ℕ → List ℕ) → frame_refusal bs ≡ 0 → Roomy (second bs) (decode bs) t c → Scheduled (second bs) (decode bs) t c rising

abbrev pub RisingRuns : Type 0
RisingRuns = (bs : List ℕ) (p : Plans) → frame_refusal bs ≡ 0 → Schedule (second bs) (decode bs) p (rising p) → schedule (decode bs) p (rising p) ≡ run_calls (second bs) (decode bs)
