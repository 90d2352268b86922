-- What is proved: each claim, and the proof that it cites. To believe a claim, read it and the definitions that it names, all under specs/.
use Rattle.std.specs.Prelude.{ℕ, ◌^◌, ◌≤◌, ◌<◌, ◌≡◌, refl, Bool, Result, true, false, ◌&&◌, ltb, length, get_or, take}
use mathlib.Core.List.{List, [], ◌∷◌, ◌++◌, map, Memᴰ}
use Rattle.lists.specs.Basics.{any, mem}
use Rattle.frame.specs.Frames.{Constraint, Frame, logged, constraints, constraint_at, dynamic, conflicting, on, touches, frame_of}
use Rattle.frame.specs.Files.{second, decode, frame_refusal}
use Rattle.frame_file.specs.Written.{file_of, Writable}
use Rattle.frame_file.proofs.Decoded.{written_decoded}
use Rattle.generator.specs.Draws.{state_after}
use Rattle.generator.specs.Calls.{Made}
use Rattle.generator.specs.Lifts.{Lift}
use Rattle.generator.proofs.Lifts.{lift_made, states_from_0}
use Rattle.island_sets.specs.Sets.{links_of}
use Rattle.connected_sets.specs.Islands.{Connected, lowest, in_island, island_count, body_label, label, heaviest, set_size}
use Rattle.island.specs.Calls.{IslandTables, Built}
use Rattle.connected_sets.proofs.Theorem.{connected_label, label_connected, lowest_in, lowest-least, label-rises, body_below, label-each}
use Rattle.connected_sets.proofs.Weights.{root_connected, connected_root}
use Rattle.groups.specs.Groups.{Plan, flagged, free, used_by, colors_of}
use Rattle.groups.proofs.Colors.{colors_snoc, free_new, free-least, proper}
use Rattle.coloring.specs.Coloring.{Walked}
use Rattle.coloring.proofs.Promised.{left_higher}
use Rattle.constraint_coloring.specs.declared.ConstraintColoring.{ConstraintColoring}
use Rattle.plan_questions.specs.Plans.{Tables}
use Rattle.constraint_coloring.specs.Calls.{fresh_plan}
use Rattle.plan_history.specs.Memory.{fresh, Input, Answered, answers}
use Rattle.plan_history.specs.History.{History, memory_after, Standing}
use Rattle.plan_history.proofs.History.{memory}
use Rattle.multi_coloring.specs.declared.MultiColoring.{MultiColoring}
use Rattle.multi_coloring.specs.Calls.{fresh_multi}
use Rattle.multi_history.specs.Memory.{multi_fresh, MultiInput, multi_answers}
use Rattle.multi_history.specs.History.{MultiHistory, multi_memory_after, MultiStanding}
use Rattle.multi_history.proofs.History.{multi_memory}
use Rattle.colored_bodies.specs.declared.BodyBinding.{BodyBinding}
use Rattle.colored_bodies.specs.declared.Marked.{Marked}
use Rattle.frame.specs.declared.refusal.Refusal.{Refusal}
use Rattle.colored_bodies.specs.Answers.{Marks, MarksAt}
use Rattle.schedules.specs.Runs.{Call, Plans, Orders, calls_from, schedule, rising, run_calls}
use Rattle.schedules.specs.Condition.{Schedule, Condition3, Permuted, Roomy, Scheduled}
use Rattle.schedules.specs.Lanes.{holds_body, Turns, NoneOnBoth, Apart, two_on_logged, ApartIn}
use Rattle.schedules.specs.Labels.{IslandsRead}
use Rattle.schedules.specs.Samples.{answer, samples}
use Rattle.schedules.proofs.Lanes.{lanes_apart, islands_apart, unlogged_apart}
use Rattle.schedules.proofs.Labels.{islands-read}
use Rattle.schedules.proofs.Accepted.{accepted}
use Rattle.schedules.proofs.Condition3.{condition3, has_island}
use Rattle.schedules.proofs.Existence.{schedules_exist, room_exists, rising_exists, rising_runs}
use Rattle.schedules.proofs.Samples.{samples_hold, logged_shared}
use Rattle.group_run.specs.Appends.{added_by, marks_only}
use Rattle.group_run.specs.ByValue.{ByValue, ByValueAt}
use Rattle.group_run.proofs.ByValue.{marks_are_takes, counted_marks_are_takes, groups_by_marks}
use Rattle.run_answer.specs.declared.Report.{Report}
use Rattle.run_answer.specs.Answers.{run_report}
use Rattle.run_answer.specs.Lent.{Lent}
use Rattle.frame_run.specs.Calls.{refusal_in, Ran}
use Rattle.frame_run.specs.Condition.{Conditioned}
use Rattle.frame_run.proofs.Condition.{conditioned}
use Rattle.frame_run.proofs.Lanes.{run_apart}
use Rattle.schedules.specs.Print.{print_of}
use Rattle.print_pieces.specs.declared.Piece.{Piece}
use Rattle.print_pieces.specs.Pieces.{FirstPiece, Written}
use Rattle.print_pieces.proofs.Whole.{whole_print}

-- ---- lanes

-- Two lanes never hold one body: of every accepted file and every schedule of its frame, two different turns of one group of one island
-- hold no body in common, and no body that makes conflicts, dynamic or logged (a drum that logs its line pull), is on both constraints.
pub two_lanes : (bs : List ℕ) (p : Plans) (o : Orders) (c d : Call) → frame_refusal bs ≡ 0 → Schedule (second bs) (decode bs) p o → Turns (decode bs) p o c d
    → c.island ≡ d.island → c.group ≡ d.group → Apart (decode bs) c d
two_lanes = lanes_apart

-- And turns of two different islands, whatever their groups, have no dynamic body on both constraints. THIS DOES NOT SAY that islands may be
-- solved at once: a logged body may be on both, as the claim after the next shows. Islands are solved one after another.
pub two_islands : (bs : List ℕ) (p : Plans) (o : Orders) (c d : Call) → frame_refusal bs ≡ 0 → Schedule (second bs) (decode bs) p o → Turns (decode bs) p o c d
    → (c.island ≡ d.island → ⊥) → NoneOnBoth (dynamic (decode bs)) (decode bs) c.constraint d.constraint
two_islands = islands_apart

-- Only in a frame without a logged body do turns of two islands share no body that makes conflicts.
pub two_islands_unlogged : (bs : List ℕ) (p : Plans) (o : Orders) (c d : Call) → frame_refusal bs ≡ 0 → Schedule (second bs) (decode bs) p o → Turns (decode bs) p o c d
    → (c.island ≡ d.island → ⊥) → any logged (decode bs).types ≡ false → NoneOnBoth (conflicting (decode bs)) (decode bs) c.constraint d.constraint
two_islands_unlogged = unlogged_apart

-- Two islands may share a logged body: types 2, 3, 2 with the manifolds (0,1) and (2,1) are accepted, the run's two turns are of the islands
-- 0 and 1, and both hold body 1.
pub islands_share_logged : (frame_refusal two_on_logged ≡ 0) × (map (λ c. c.island) (run_calls false (decode two_on_logged)) ≡ 0 ∷ 1 ∷ [])
    × (map (holds_body 1) (run_calls false (decode two_on_logged)) ≡ true ∷ true ∷ [])
islands_share_logged = logged_shared

-- Of the code: any two turns of one island and group in the turn table that an accepted call of `run` leaves have no body that makes
-- conflicts on both constraints.
pub two_lanes_of_run : (bs : List ℕ) (l m : Lent) (r : Result Report Refusal) (a b : ℕ) → refusal_in bs l ≡ 0 → Ran bs l m r → a < b → b < (run_report r).turns → ApartIn (decode bs) m.turns a b
two_lanes_of_run = run_apart

-- ---- islands

-- Islands are the connected sets: connected bodies have the same label, and bodies of islands with the same label are connected.
pub connected_same : (f : Frame) (x y : ℕ) → Connected f x y → body_label f x ≡ body_label f y
connected_same = connected_label

pub same_connected : (f : Frame) (x y : ℕ) → in_island f x ≡ true → in_island f y ≡ true → body_label f x ≡ body_label f y → Connected f x y
same_connected = label_connected

-- They are numbered by their lowest bodies: `lowest` is in the set and no body of the set is below it, labels rise with it, and each is
-- below the count.
pub lowest_member : (f : Frame) (x : ℕ) → Connected f x (lowest f x)
lowest_member = lowest_in

pub lowest_of_all : (f : Frame) (x y : ℕ) → Connected f x y → lowest f x ≤ y
lowest_of_all = lowest-least

pub labels_rise : (f : Frame) (x y : ℕ) → in_island f x ≡ true → in_island f y ≡ true → lowest f x < lowest f y → body_label f x < body_label f y
labels_rise = label-rises

pub labels_below : (f : Frame) (x : ℕ) → in_island f x ≡ true → body_label f x < island_count f
labels_below = body_below

-- A live constraint has the island of each of its dynamic bodies.
pub constraint_label : (f : Frame) (c : Constraint) (b : ℕ) → Memᴰ c (constraints f) → on b c ≡ true → dynamic f b ≡ true → label f c ≡ body_label f b
constraint_label = label-each

-- After an accepted islands call, whatever its tables held before, the answer and the labels in the tables give these islands.
pub islands_in_tables : (f : Frame) (t u : IslandTables) (number islands : ℕ) → Built f 0 t u number islands → IslandsRead f u.manifold_islands u.joint_islands islands
islands_in_tables = islands-read

-- ---- weighted union (document 02, request 7)

-- The sets that it makes are the connected sets: bodies have one root exactly if they are connected.
pub one_root_connected : (f : Frame) (x y : ℕ) → heaviest f x ≡ heaviest f y → Connected f x y
one_root_connected = root_connected

pub connected_one_root : (f : Frame) (x y : ℕ) → Connected f x y → heaviest f x ≡ heaviest f y
connected_one_root = connected_root

-- After an accepted islands call, 2 to the number of links from a body to its root is at most the number of bodies in its set.
pub few_links : (f : Frame) (t u : IslandTables) (number islands b : ℕ) → Built f 0 t u number islands → b < length f.types
    → 2 ^ links_of (take (length f.types) u.parents) b ≤ set_size f b
few_links f t u number islands b h = (h.sets refl).links b

-- ---- colors

-- In list order each constraint gets the least color that no earlier constraint in conflict with it has: `free` of the colors in use is
-- not in use, and each lower number is.
pub color_next : (flags : List ℕ) (cs : List (List ℕ)) (bs : List ℕ) → colors_of flags (cs ++ bs ∷ []) ≡ colors_of flags cs ++ free (used_by flags cs (colors_of flags cs) bs) ∷ []
color_next = colors_snoc

pub color_unused : (used : List ℕ) → mem (free used) used ≡ false
color_unused = free_new

pub color_least : (used : List ℕ) (i : ℕ) → i < free used → mem i used ≡ true
color_least = free-least

-- The coloring is proper: two constraints on one body with flag 1 (dynamic or logged) never have the same color.
pub colors_differ : (flags : List ℕ) (cs : List (List ℕ)) (r s b : ℕ) → r < s → s < length cs → flagged flags b ≡ true → mem b (get_or cs r []) ≡ true → mem b (get_or cs s []) ≡ true
    → get_or (colors_of flags cs) r 0 ≡ get_or (colors_of flags cs) s 0 → ⊥
colors_differ = proper

-- Of the code: a walk for color k, as its contract allows it, leaves uncolored exactly the constraints promised a higher color.
pub walk_leaves : (flags : List ℕ) (cs : List (List ℕ)) (k start count left : ℕ) (remaining' colored' busy' : List ℕ) → Walked flags cs k start count left remaining' colored' busy'
    → (r : ℕ) → mem r (take left remaining') ≡ (ltb r (length cs) && ltb k (get_or (colors_of flags cs) r 0))
walk_leaves = left_higher

-- ---- the plan's memory

-- After any list of updates of a fresh plan the answers are the definition's, and the plan and its tables hold what is remembered.
pub plan_memory : {q : ConstraintColoring} {t v : Tables} {ins : List Input} {outs : List Answered} → History fresh_plan t ins outs q v
    → (outs ≡ answers fresh ins) × Standing (any (λ a. a.changed) outs) (memory_after fresh ins) q v
plan_memory = memory

-- The same of a plan whose constraints have a count each.
pub multi_plan_memory : {q : MultiColoring} {t v : Tables} {c e : List ℕ} {ins : List MultiInput} {outs : List Answered} → MultiHistory fresh_multi t c ins outs q v e
    → (outs ≡ multi_answers multi_fresh ins) × MultiStanding (any (λ a. a.changed) outs) (multi_memory_after multi_fresh ins) q v e
multi_plan_memory = multi_memory

-- ---- condition 3

-- Of the definitions: of every accepted file, of version 1 or 2, and every schedule of its frame.
pub condition_3 : (bs : List ℕ) (p : Plans) (o : Orders) → frame_refusal bs ≡ 0 → Schedule (second bs) (decode bs) p o → Condition3 bs (decode bs) p o
condition_3 = condition3

-- Of the code: of every accepted call of `run`, as its contract allows it, and every schedule of its frame.
pub condition_3_of_run : (bs : List ℕ) (l m : Lent) (r : Result Report Refusal) (p : Plans) (o : Orders) → refusal_in bs l ≡ 0 → Ran bs l m r → Schedule (second bs) (decode bs) p o → Conditioned bs l m r p o
condition_3_of_run = conditioned

-- What takes and D are counted over: a constraint has an island exactly if it touches a dynamic body.
pub counted_have_islands : (bs : List ℕ) (n : ℕ) → frame_refusal bs ≡ 0 → ltb (label (decode bs) (constraint_at (decode bs) n)) (island_count (decode bs)) ≡ touches (decode bs) (constraint_at (decode bs) n)
counted_have_islands bs n e = has_island (decode bs) (accepted bs e) n

-- ---- schedules

-- There are schedules: for any tables with room and any orders that permute the groups' members; and there are tables with room.
pub schedule_made : (bs : List ℕ) (t : ℕ → Tables) (c : ℕ → List ℕ) (o : Orders) → frame_refusal bs ≡ 0 → Roomy (second bs) (decode bs) t c → Permuted (second bs) (decode bs) o → Scheduled (second bs) (decode bs) t c (λ p. o)
schedule_made = schedules_exist

pub room_found : (counted : Bool) (f : Frame) → (t : ℕ → Tables) × (c : ℕ → List ℕ) × Roomy counted f t c
room_found = room_exists

-- There is one with rising orders, and each such schedule is the run.
pub rising_made : (bs : List ℕ) (t : ℕ → Tables) (c : ℕ → List ℕ) → frame_refusal bs ≡ 0 → Roomy (second bs) (decode bs) t c → Scheduled (second bs) (decode bs) t c rising
rising_made = rising_exists

pub rising_is_run : (bs : List ℕ) (p : Plans) → frame_refusal bs ≡ 0 → Schedule (second bs) (decode bs) p (rising p) → schedule (decode bs) p (rising p) ≡ run_calls (second bs) (decode bs)
rising_is_run = rising_runs

-- ---- takes by marks

-- The run takes by marks alone; each such take is the take by value, and adds the same turn and takes.
pub take_by_marks : (b : BodyBinding) (x y : ℕ) (r : Result Marked Refusal) (left : List ℕ) → Marks b (x ∷ y ∷ []) r left → ByValue b x y r left
take_by_marks = marks_are_takes

-- The same of two to four positions.
pub counted_take_by_marks : (b : BodyBinding) (ps : List ℕ) (r : Result (List Bool) Refusal) (left : List ℕ) → MarksAt b ps r left → ByValueAt b ps r left
counted_take_by_marks = counted_marks_are_takes

-- So a group's takes add the same from a binding and from its marks and count alone.
pub group_by_marks : (p : Plan) (ns : List ℕ) (i k : ℕ) (b : BodyBinding) (rs : List ℕ) → added_by (calls_from p ns i k b rs) ≡ added_by (calls_from p ns i k (marks_only b.marks b.count) rs)
group_by_marks = groups_by_marks

-- ---- the print

-- The pieces that `first_piece` and `next_piece` make, from the first to the last, are the whole print of the input.
pub print_whole : (bs ts old table buffer : List ℕ) (p : Piece) (text : List ℕ) → FirstPiece bs ts old table buffer p → Written bs table buffer p text → text ≡ print_of bs
print_whole = whole_print

-- ---- files and test lifts

-- A frame written in the file form is the frame that is read from it.
pub file_read : (ts ps js es : List ℕ) → Writable ts ps js es → decode (file_of ts ps js es) ≡ frame_of ts ps js es
file_read = written_decoded

-- The first bytes that an accepted call of `generate` leaves, as many as it answers, pass questions 1 to 5 and 7 and hold the frame of the
-- draws: every type, every pair and every enabled byte.
pub lift_accepted : (seed b m j : ℕ) (old new : List ℕ) (number long : ℕ) → Made seed b m j old new number long → number ≡ 0 → Lift seed b m j (take long new)
lift_accepted = lift_made

-- The first states from seed 0 are those of document 02.
pub first_states : (state_after 1 0 ≡ 1013904223) × (state_after 2 0 ≡ 1196435762) × (state_after 3 0 ≡ 3519870697)
first_states = states_from_0

-- ---- samples

-- Document 01's ● samples, its printed example and the samples of requests 6 and 11: one table, computed.
pub samples_answered : map (λ s. answer s.ask) samples ≡ map (λ s. s.gives) samples
samples_answered = samples_hold
