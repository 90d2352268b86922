-- Schedules of a frame, and the frame run.
use Rattle.std.specs.Prelude.{ℕ, Bool, true, cond, List, [], ◌∷◌, ◌++◌, map, eqb, length, get_or}
use Rattle.lists.specs.Basics.{filter, sum_of, count, range, join_map}
use Rattle.frame.specs.Frames.{Frame, constraint_at, flag_of, all_sound, degree_max}
use Rattle.frame.specs.Questions.{question, asked}
use Rattle.frame.specs.Files.{second, decode, file_questions}
use Rattle.connected_sets.specs.Islands.{island_count, of_island}
use Rattle.groups.specs.Groups.{pair_at, Plan, multi_plan_of}
use Rattle.plan_questions.specs.Plans.{group_part, positions_refusal}
use Rattle.plan_history.specs.Memory.{fresh, remembered, plan_for}
use Rattle.multi_coloring.specs.Counts.{multi_positions_refusal, positions_in}
use Rattle.colored_bodies.specs.declared.BodyBinding.{BodyBinding}
use Rattle.colored_bodies.specs.Bindings.{Taking, bind_of, take_of}
use Rattle.colored_bodies.specs.declared.Handed.{Handed}

-- ---- the calls of a schedule

-- the frame's flags
unfoldable pub flags : Frame → List ℕ
flags f = map flag_of f.types

-- the endpoint lists of an island's constraints in rising number, and these one after another
unfoldable pub ends_of : Frame → ℕ → List (List ℕ)
ends_of f i = map (λ n. (constraint_at f n).ends) (of_island f i)

unfoldable pub pairs_for : Frame → ℕ → List ℕ
pairs_for f i = join_map (λ ends. ends) (ends_of f i)

-- their counts, where the update is lent counts: on version 2
unfoldable pub counts_for : Bool → Frame → ℕ → List ℕ
counts_for counted f i = cond counted (map length (ends_of f i)) []

-- what an update of a fresh plan leaves in the used places: of endpoints with counts, or of pairs where there are none
unfoldable pub freshly : List ℕ → List ℕ → List ℕ → Plan
freshly flags counts ends = cond (eqb (length counts) 0) (plan_for (remembered fresh flags ends true)) (multi_plan_of flags ends counts)

-- the definition's plan of island i
unfoldable pub plan_at : Bool → Frame → ℕ → Plan
plan_at counted f i = freshly (flags f) (counts_for counted f i) (pairs_for f i)

-- a group's members and bodies, as the lookups hand them back from a plan's tables
unfoldable pub members_in : Plan → ℕ → List ℕ
members_in p k = group_part p.groups p.color_offsets p.colored_constraints k

unfoldable pub bodies_in : Plan → ℕ → List ℕ
bodies_in p k = group_part p.groups p.color_body_offsets p.color_bodies k

-- the positions of the constraint of rank r, as the plan's lookup answers them: its refusal or 0, and two to four places
unfoldable pub lookup_refusal : Plan → ℕ → ℕ
lookup_refusal p r = cond (eqb (length p.counts) 0) (positions_refusal p.constraints p.positions r) (multi_positions_refusal p.constraints p.counts p.positions r)

unfoldable pub lookup_of : Plan → ℕ → List ℕ
lookup_of p r = cond (eqb (length p.counts) 0) (pair_at p.positions r) (positions_in p.constraints p.counts p.positions r)

-- a take asks for its constraint's positions, by its rank r in the island, and takes them
unfoldable pub take_rank : Plan → BodyBinding → ℕ → Taking
take_rank p b r =
    let q = lookup_refusal p r in
    cond (eqb q 0) (take_of b (lookup_of p r)) (record { refusal = q; handed = []; after = b })

-- a take that was made: for which island, group and constraint, its refusal or 0, and the bodies it answered
pub record Call : Type 0 where
  pub island : ℕ
  pub group : ℕ
  pub constraint : ℕ
  pub refusal : ℕ
  pub handed : List Handed

-- the takes of one group, by rank: each gets the binding as the take before left it, refused or not; `ns` numbers the ranks
unfoldable pub calls_from : Plan → List ℕ → ℕ → ℕ → BodyBinding → List ℕ → List Call
calls_from p ns i k b [] = []
calls_from p ns i k b (r ∷ rs) =
    let t = take_rank p b r in
    record { island = i; group = k; constraint = get_or ns r 0; refusal = t.refusal; handed = t.handed }
    ∷ calls_from p ns i k t.after rs

-- a plan for each island, and an order of takes for each island and group
abbrev pub Plans : Type 0
Plans = ℕ → Plan

abbrev pub Orders : Type 0
Orders = ℕ → ℕ → List ℕ

-- the whole schedule: islands in number order, their groups in order, a bind for each, and its takes as listed
unfoldable pub group_calls : Frame → Plans → Orders → ℕ → ℕ → List Call
group_calls f p o i k = calls_from (p i) (of_island f i) i k (bind_of f.types (bodies_in (p i) k)) (o i k)

unfoldable pub schedule : Frame → Plans → Orders → List Call
schedule f p o = join_map (λ i. join_map (group_calls f p o i) (range (p i).groups)) (range (island_count f))

-- ---- what is carried

-- a take that is not refused succeeds and makes one turn
unfoldable pub turns_of : List Call → List Call
turns_of cs = filter (λ c. eqb c.refusal 0) cs

-- takes: the bodies answered as "dynamic"
unfoldable pub takes_of : List Call → ℕ
takes_of cs = sum_of (λ c. count (λ h. h.dynamic) c.handed) cs

-- a turn as it stands in the turn table
abbrev pub turn_of : Call → List ℕ
turn_of c = c.island ∷ c.group ∷ c.constraint ∷ []

-- a run's answer: its refusal or 0, the four carried numbers, and the turns, three numbers each
pub record Report : Type 0 where
  pub refusal : ℕ
  pub islands : ℕ
  pub turns : ℕ
  pub takes : ℕ
  pub degree : ℕ
  pub table : List ℕ

abbrev pub report_of : Frame → List Call → Report
report_of f cs = record {
  refusal = 0;
  islands = island_count f;
  turns = length (turns_of cs);
  takes = takes_of cs;
  degree = degree_max f;
  table = join_map turn_of (turns_of cs);
}

-- a refusal carries 0 in all four numbers
abbrev pub refused : ℕ → Report
refused n = record { refusal = n; islands = 0; turns = 0; takes = 0; degree = 0; table = [] }

-- the orders of the run: every group's members rising, as the plan lists them
unfoldable pub rising : Plans → Orders
rising p i k = members_in (p i) k

-- the run's calls
abbrev pub run_calls : Bool → Frame → List Call
run_calls counted f = schedule f (plan_at counted f) (rising (plan_at counted f))

-- the run of a file, where `room` answers question 6
unfoldable pub run_refusal : List ℕ → Bool → ℕ
run_refusal bs room = asked (file_questions bs ++ question 6 room ∷ question 7 (all_sound (decode bs)) ∷ [])

unfoldable pub run_of : List ℕ → Bool → Report
run_of bs room = cond (eqb (run_refusal bs room) 0) (report_of (decode bs) (run_calls (second bs) (decode bs))) (refused (run_refusal bs room))
