-- There are schedules. On tables with room the update of an island is accepted; the tables and the answer that its contract then asks for are
-- written down, and they meet it. The plan so made says what the definition's plan says, so orders of the one are orders of the other.
use Rattle.std.proofs.Common.{ℕ, ◌+◌, ◌*◌, ◌≤◌, ◌<◌, ◌≡◌, refl, sym, ap, ◌∙◌, Bool, true, false, cond, List, [], arith, leb, eqb, length, replicate, le-leb}
use Rattle.std.proofs.Math.ListN.{length-replicate}
use Rattle.lists.specs.Basics.{count, over}
use Rattle.lists.proofs.Laws.{and_both, by_cases}
use Rattle.frame.specs.Frames.{Frame}
use Rattle.frame.specs.Files.{second, decode}
use Rattle.connected_sets.specs.Islands.{island_count, of_island}
use Rattle.groups.specs.Groups.{Plan, plan_of, multi_plan_of}
use Rattle.constraint_coloring.specs.declared.ConstraintColoring.{ConstraintColoring}
use Rattle.constraint_coloring.specs.declared.Update.{Update}
use Rattle.constraint_coloring.specs.declared.Update.TheVariants.{Changed, Unchanged}
use Rattle.plan_questions.specs.Plans.{Tables, roomy, roomy_with}
use Rattle.constraint_coloring.specs.Calls.{fresh_plan, plan_after, carried, holds, Leaves, Updated}
use Rattle.plan_questions.proofs.Rooms.{with_fitted}
use Rattle.constraint_coloring.proofs.Updates as updates
use Rattle.multi_coloring.specs.declared.MultiColoring.{MultiColoring}
use Rattle.multi_coloring.specs.Calls.{fresh_multi, multi_carried, multi_holds, multi_roomy, numbers_of, MultiUpdated}
use Rattle.multi_coloring.proofs.Updates as counted_updates
use Rattle.schedules.specs.Runs.{Plans, Orders, flags, pairs_for, counts_for, plan_at, members_in, rising}
use Rattle.schedules.specs.Condition.{SameNumbers, standing, Planned, Permuted, Roomy, Found, Scheduled, Exist, RoomExists, RisingExists, RisingRuns}
use Rattle.schedules.proofs.Accepted.{Accepted, accepted}
use Rattle.schedules.proofs.Plans.{accepted_pairs, accepted_counts, plan_stands, planned_stands}
use Rattle.schedules.proofs.Condition3.{same-schedule}

-- ---- an update of a fresh plan, as its contract asks for it

-- the tables as a change to the plan d leaves them; those that are free stay
abbrev rewritten : List ℕ → List ℕ → Plan → Tables → Tables
rewritten fs es d t = record {
  dynamic_bodies = over fs t.dynamic_bodies;
  endpoints = over es t.endpoints;
  body_offsets = t.body_offsets;
  body_constraints = t.body_constraints;
  scratch_offsets = t.scratch_offsets;
  constraint_colors = over d.colors t.constraint_colors;
  color_stamps = t.color_stamps;
  body_stamps = t.body_stamps;
  color_offsets = over d.color_offsets t.color_offsets;
  colored_constraints = over d.colored_constraints t.colored_constraints;
  color_body_offsets = over d.color_body_offsets t.color_body_offsets;
  color_bodies = over d.color_bodies t.color_bodies;
  constraint_body_positions = over d.positions t.constraint_body_positions;
}

leaves_rewritten : (fs es : List ℕ) (d : Plan) (t : Tables) → Leaves true fs es d t (rewritten fs es d t)
leaves_rewritten fs es d t = record {
  dynamic_bodies = updates.written_new _ _ _ refl;
  endpoints = updates.written_new _ _ _ refl;
  body_offsets = updates.free_new refl;
  body_constraints = updates.free_new refl;
  scratch_offsets = updates.free_new refl;
  constraint_colors = updates.written_new _ _ _ refl;
  color_stamps = updates.free_new refl;
  body_stamps = updates.free_new refl;
  color_offsets = updates.written_new _ _ _ refl;
  colored_constraints = updates.written_new _ _ _ refl;
  color_body_offsets = updates.written_new _ _ _ refl;
  color_bodies = updates.written_new _ _ _ refl;
  constraint_body_positions = updates.written_new _ _ _ refl;
}

-- what the update of island i leaves and answers: "unchanged" where the tables hold the input already
module _ (f : Frame) (i : ℕ) (t : Tables) where
  abbrev fs : List ℕ
  fs = flags f

  abbrev es : List ℕ
  es = pairs_for f i

  module _ where
    abbrev same : Bool
    same = holds fresh_plan t fs es

    abbrev tables_after : Tables
    tables_after = cond same t (rewritten fs es (plan_of fs es) t)

    abbrev answer : Update ConstraintColoring
    answer = cond same Unchanged (Changed (carried (plan_of fs es)))

    updated_pairs : Accepted false f → i < island_count f → roomy (length f.types) (length (of_island f i)) t ≡ true → Updated fresh_plan fs es t tables_after answer
    updated_pairs ok l room =
        let e = accepted_pairs f ok i l refl t room in
        by_cases same
        (λ s. rw s (updates.unchanged fresh_plan fs es t e s))
        (λ n. rw n (updates.changed fresh_plan fs es t (rewritten fs es (plan_of fs es) t) (carried (plan_of fs es)) e n (record { plan = refl; tables = leaves_rewritten fs es (plan_of fs es) t })))

  -- the same with a count each, and a table c of counts
  module _ (c : List ℕ) where
    abbrev cs : List ℕ
    cs = counts_for true f i

    abbrev d : Plan
    d = multi_plan_of fs es cs

    abbrev same_counts : Bool
    same_counts = multi_holds fresh_multi t c fs es cs

    abbrev counted_after : Tables
    counted_after = cond same_counts t (rewritten fs es d t)

    abbrev counts_after : List ℕ
    counts_after = cond same_counts c (over cs c)

    abbrev counted_answer : Update MultiColoring
    counted_answer = cond same_counts Unchanged (Changed (multi_carried d))

    updated_counts : Accepted true f → i < island_count f → multi_roomy t c fs es cs ≡ true → MultiUpdated fresh_multi fs es cs t c counted_after counts_after counted_answer
    updated_counts ok l room =
        let e = accepted_counts f ok i l t c room in
        by_cases same_counts
        (λ s. rw s (counted_updates.unchanged fresh_multi fs es cs t c e s))
        (λ n. rw n (counted_updates.changed fresh_multi fs es cs t c (rewritten fs es d t) (over cs c) (carried d) e n (record { plan = refl; tables = leaves_rewritten fs es d t }) refl))

-- ---- a schedule of these updates

plans_of : Bool → Frame → (ℕ → Tables) → (ℕ → List ℕ) → Plans
plans_of false f t c i = standing (plan_after fresh_plan (answer f i (t i))) [] (tables_after f i (t i))
plans_of true f t c i = standing (numbers_of (plan_after fresh_multi (counted_answer f i (t i) (c i)))) (counts_after f i (t i) (c i)) (counted_after f i (t i) (c i))

planned : (counted : Bool) (f : Frame) (t : ℕ → Tables) (c : ℕ → List ℕ) → Accepted counted f → Roomy counted f t c → (i : ℕ) → i < island_count f → Planned counted f i (plans_of counted f t c i)
unfolding plans_of
planned false f t c ok room i l = record {
  before = t i;
  after = tables_after f i (t i);
  answer = answer f i (t i);
  room = room i l;
  updated = updated_pairs f i (t i) ok l (room i l);
  stands = refl;
}
planned true f t c ok room i l = record {
  before = t i;
  counts_before = c i;
  after = counted_after f i (t i) (c i);
  counts_after = counts_after f i (t i) (c i);
  answer = counted_answer f i (t i) (c i);
  room = room i l;
  updated = updated_counts f i (t i) (c i) ok l (room i l);
  stands = refl;
}

as_found : (counted : Bool) (f : Frame) (t : ℕ → Tables) (c : ℕ → List ℕ) (ok : Accepted counted f) (room : Roomy counted f t c) (i : ℕ) (l : i < island_count f)
    → Found counted f i (plans_of counted f t c i) (planned counted f t c ok room i l) (t i) (c i)
unfolding planned
as_found false f t c ok room i l = refl
as_found true f t c ok room i l = (refl, refl)

module _ (counted : Bool) (f : Frame) (t : ℕ → Tables) (c : ℕ → List ℕ) (ok : Accepted counted f) (room : Roomy counted f t c) where
  abbrev plans : Plans
  plans = plans_of counted f t c

  -- the groups and members of such a plan are those of the definition's
  ordered : (o : Orders) → Permuted counted f o → (i k : ℕ) → i < island_count f → k < (plans i).groups → SameNumbers (o i k) (members_in (plans i) k)
  ordered o h i k l g n =
      let s = planned_stands counted f ok i l (plans i) (planned counted f t c ok room i l) in
      let d = plan_stands counted f ok i l in
      let g' : k < (plan_at counted f i).groups = omega (arith, s.groups, d.groups) in
      h i k l g' n ∙ ap (count (eqb n)) (d.members k g' ∙ sym (s.members k g))

  scheduled : (o : Plans → Orders) → ((i k : ℕ) → i < island_count f → k < (plans i).groups → SameNumbers (o plans i k) (members_in (plans i) k)) → Scheduled counted f t c o
  scheduled o h = record { plans = plans; made = record { plans = planned counted f t c ok room; orders = h }; found = as_found counted f t c ok room }

-- ---- the theorems

pub schedules_exist : Exist
schedules_exist bs t c o e room h = scheduled (second bs) (decode bs) t c (accepted bs e) room (λ p. o) (ordered (second bs) (decode bs) t c (accepted bs e) room o h)

pub rising_exists : RisingExists
unfolding rising
rising_exists bs t c e room = scheduled (second bs) (decode bs) t c (accepted bs e) room rising (λ i k l h n. refl)

pub rising_runs : RisingRuns
rising_runs bs p e s =
    let f = decode bs in
    let ok = accepted bs e in
    same-schedule f p (plan_at (second bs) f) (λ i l. planned_stands (second bs) f ok i l (p i) (s.plans i l)) (plan_stands (second bs) f ok)

-- ---- tables with room

-- n places each, all 0
abbrev blank : ℕ → Tables
blank n = record {
  dynamic_bodies = replicate n 0;
  endpoints = replicate n 0;
  body_offsets = replicate n 0;
  body_constraints = replicate n 0;
  scratch_offsets = replicate n 0;
  constraint_colors = replicate n 0;
  color_stamps = replicate n 0;
  body_stamps = replicate n 0;
  color_offsets = replicate n 0;
  colored_constraints = replicate n 0;
  color_body_offsets = replicate n 0;
  color_bodies = replicate n 0;
  constraint_body_positions = replicate n 0;
}

blank-roomy : (b c e n : ℕ) → b + c + e < n → roomy_with b c e (blank n) ≡ true
blank-roomy b c e n h =
    let z : length {A = ℕ} (replicate n 0) ≡ n = length-replicate {A = ℕ} n 0 in
    let w : (m : ℕ) → m ≤ b + c + e + 1 → m ≤ length {A = ℕ} (replicate n 0) = λ m k. omega arith in
    with_fitted b c e (blank n)
    (w b (omega arith), (w e (omega arith), (w (b + 1) (omega arith), (w e (omega arith), (w b (omega arith), (w c (omega arith), (w c (omega arith), (w c (omega arith), (w b (omega arith), (w (c + 1) (omega arith), (w c (omega arith), (w (c + 1) (omega arith), (w e (omega arith), (w e (omega arith), tt))))))))))))))

-- enough for the update of an island, of either version
enough : Frame → ℕ → ℕ
enough f i = length f.types + 3 * length (of_island f i) + length (flags f) + length (pairs_for f i) + length (counts_for true f i) + 1

blank-room : (counted : Bool) (f : Frame) → Roomy counted f (λ i. blank (enough f i)) (λ i. replicate (enough f i) 0)
unfolding enough
blank-room false f = λ i l. blank-roomy (length f.types) (length (of_island f i)) (2 * length (of_island f i)) (enough f i) (omega arith)
blank-room true f = λ i l.
    let c = length (counts_for true f i) in
    let n = enough f i in
    and_both (leb c (length {A = ℕ} (replicate n 0))) _ (le-leb c (length {A = ℕ} (replicate n 0)) (omega (arith, length-replicate {A = ℕ} n 0)))
    (blank-roomy (length (flags f)) c (length (pairs_for f i)) n (omega arith))

pub room_exists : RoomExists
room_exists counted f = (λ i. blank (enough f i), λ i. replicate (enough f i) 0, blank-room counted f)
