-- The update of an island is accepted, so its plan is the definition's for the frame's flags and the endpoints of the island's constraints, as
-- pairs on version 1 and with a count each on version 2; either way its constraints are these, each the list of its endpoints, and the lookups
-- hand back its groups' members and bodies and its constraints' positions.
use Rattle.std.proofs.Common.{ℕ, ◌-◌, ◌*◌, ◌/◌, ◌%◌, ◌≤◌, ◌<◌, ◌≡◌, refl, sym, ap, ◌∙◌, subst, Bool, true, false, ◌&&◌, cond, [], ◌∷◌, ◌++◌, List, map, append-nil, arith, leb, eqb, length, get_or, length-append, eqb-true, eq-eqb, le-leb}
use Rattle.std.proofs.Math.ListN.{length-map}
use Rattle.lists.specs.Basics.{one, any, all, count, mem, join_map}
use Rattle.lists.proofs.Laws.{and_right, and_both, by_cases, any_in, any_out, in_range, all_intro, all_map, filter-mem, max_in, filter-length-le, length-range, get_or-map-lt}
use Rattle.lists.proofs.Sums.{sum_le, sum_map, sum_filter, sum_get_or}
use Rattle.lists.proofs.Ranges.{length-join_map}
use Rattle.frame.specs.Frames.{Constraint, Frame, constraints, numbers, bodies, constraint_at, nothing, conflicts, dynamic, conflicting, on, touches, fits, counted, counts_known, end_count, degree, degree_max, flag_of}
use Rattle.frame.specs.Questions.{pair_count, bits}
use Rattle.connected_sets.specs.Islands.{island_count, label, of_island}
use Rattle.connected_sets.proofs.Theorem.{islands-few, island_touches}
use Rattle.groups.specs.Groups.{Plan, pairs_of, counted_parts, flagged, colors_of, group_count}
use Rattle.groups.proofs.Colors.{color_few, colors-length}
use Rattle.groups.proofs.Counts.{parts_apart}
use Rattle.plan_questions.specs.Plans.{Tables, roomy, update_refusal}
use Rattle.constraint_coloring.specs.Calls.{refusal_with}
use Rattle.multi_coloring.specs.Counts.{multi_update_refusal}
use Rattle.multi_coloring.specs.Calls.{multi_roomy, multi_refusal_with}
use Rattle.schedules.specs.Runs.{flags, ends_of, pairs_for, counts_for, plan_at}
use Rattle.schedules.specs.Condition.{Planned, most_groups}
use Rattle.schedules.proofs.Accepted.{Accepted, fitting, sized, two-ends, ends-few, flag_conflicts, conflicting_below, dynamic-conflicts, touch_is_live}
use Rattle.schedules.proofs.Places.{joined}
use Rattle.schedules.proofs.Standing.{Lookups, fresh_pairs, updated_pairs, fresh-counts, updated_counts}

abbrev pub ends_at : Frame → ℕ → List ℕ
ends_at f n = (constraint_at f n).ends

-- one list after another
pub pairs_joined : (f : Frame) (i : ℕ) → pairs_for f i ≡ join_map (ends_at f) (of_island f i)
unfolding pairs_for ends_of
pairs_joined f i = joined (ends_at f) (of_island f i)

pub length-flags : (f : Frame) → length (flags f) ≡ length f.types
unfolding flags
length-flags f = length-map f.types flag_of

abbrev pub colors_at : Frame → ℕ → List ℕ
colors_at f i = colors_of (flags f) (ends_of f i)

-- pairs that stand one after another, taken apart again
twos : (g : ℕ → List ℕ) (ns : List ℕ) → ((n : ℕ) → mem n ns ≡ true → length (g n) ≡ 2) → (pairs_of (join_map g ns) ≡ map g ns) × (length (join_map g ns) ≡ 2 * length ns)
twos g [] h = (refl, refl)
twos g (n ∷ ns) h =
    let r = twos g ns (λ m k. h m (or_more m n ns k)) in
    let e = h n (first n ns) in
    (step (g n) (join_map g ns) e ∙ ap (λ (xs : List (List ℕ)). g n ∷ xs) r.0, omega (arith, length-append (g n) (join_map g ns), e, r.1))
  where
    or_more : (m x : ℕ) (xs : List ℕ) → mem m xs ≡ true → mem m (x ∷ xs) ≡ true
    or_more m x xs k = by_cases (eqb m x) (λ e. rw e) (λ e. rw e k)

    first : (x : ℕ) (xs : List ℕ) → mem x (x ∷ xs) ≡ true
    first x xs = rw (eq-eqb x x refl)

    step : (xs rest : List ℕ) → length xs ≡ 2 → pairs_of (xs ++ rest) ≡ xs ∷ pairs_of rest
    step [] rest e = absurd (omega arith)
    step (x ∷ []) rest e = absurd (omega arith)
    step (x ∷ y ∷ []) rest e = refl
    step (x ∷ y ∷ z ∷ zs) rest e = absurd (omega arith)

-- lists of two to four entries each, and how many they have in all
counts-known : (g : ℕ → List ℕ) (ns : List ℕ) → ((n : ℕ) → mem n ns ≡ true → counted (length (g n)) ≡ true) → counts_known (map length (map g ns)) ≡ true
counts-known g ns h = all_map counted length (map g ns) ∙ all_map (λ xs. counted (length xs)) g ns ∙ all_intro (λ n. counted (length (g n))) ns h

joined_long : (cs : List (List ℕ)) → end_count (map length cs) ≡ length (join_map (λ c. c) cs)
joined_long cs = sum_map (λ c. c) length cs ∙ sym (length-join_map (λ c. c) cs)

flag_bits : (ts : List ℕ) → bits (map flag_of ts) ≡ true
flag_bits [] = refl
flag_bits (t ∷ ts) = and_both (leb (flag_of t) 1) (bits (map flag_of ts)) (bit (conflicts t)) (flag_bits ts)
  where
    bit : (b : Bool) → leb (one b) 1 ≡ true
    bit true = refl
    bit false = refl

module _ {counted : Bool} (f : Frame) (ok : Accepted counted f) where
  -- the constraints of an island touch a dynamic body
  pub of_island_lem : (i n : ℕ) → i < island_count f → mem n (of_island f i) ≡ true → (mem n (numbers f) ≡ true) × (label f (constraint_at f n) ≡ i) × (touches f (constraint_at f n) ≡ true)
  unfolding of_island
  of_island_lem i n l h =
      let o = filter-mem (λ m. eqb i (label f (constraint_at f m))) n (numbers f) h in
      let e : i ≡ label f (constraint_at f n) = eqb-true i (label f (constraint_at f n)) o.1 in
      (o.0, sym e, island_touches f (constraint_at f n) (λ z. omega (arith, islands-few f, ok.few_bodies)))

  module _ (i : ℕ) (l : i < island_count f) where
    abbrev cs : List (List ℕ)
    cs = ends_of f i

    abbrev colors : List ℕ
    colors = colors_at f i

    abbrev nb : ℕ
    nb = length f.types

    -- a constraint of the island is live
    pub live_here : (n : ℕ) → mem n (of_island f i) ≡ true → (constraint_at f n).live ≡ true
    live_here n m = touch_is_live f (constraint_at f n) (of_island_lem i n l m).2

    pub few_here : length (of_island f i) ≤ 8192
    unfolding of_island
    few_here = omega (arith, filter-length-le (λ m. eqb i (label f (constraint_at f m))) (numbers f), length-range 0 (length (constraints f)), ok.few_constraints)

    pub length_ends : length cs ≡ length (of_island f i)
    unfolding ends_of
    length_ends = length-map (of_island f i) (ends_at f)

    pub length-colors : length colors ≡ length (of_island f i)
    length-colors = colors-length (flags f) cs ∙ length_ends

    few-flags : leb (length (flags f)) 4096 ≡ true
    few-flags = le-leb (length (flags f)) 4096 (omega (arith, length-flags f, ok.few_bodies))

    flags-bits : bits (flags f) ≡ true
    unfolding flags
    flags-bits = flag_bits f.types

    all_fit : all (fits (length (flags f))) cs ≡ true
    unfolding ends_of
    all_fit = rw (length-flags f) (all_map (fits nb) (ends_at f) (of_island f i) ∙ all_intro (λ n. fits nb (ends_at f n)) (of_island f i) (λ n m. fitting f ok n (live_here n m)))

    -- ---- as pairs, where they are

    module _ (v : counted ≡ false) where
      pairs_are : (pairs_of (pairs_for f i) ≡ cs) × (length (pairs_for f i) ≡ 2 * length (of_island f i))
      unfolding ends_of
      pairs_are = rw (pairs_joined f i) (twos (ends_at f) (of_island f i) (λ n m. two-ends f ok n (live_here n m) v))

      -- so the update of an island is accepted
      pub accepts : update_refusal (flags f) (pairs_for f i) true ≡ 0
      unfolding update_refusal
      accepts =
          rw (
            few-flags,
            le-leb (length (pairs_for f i) / 2) 8192 (omega (arith, pairs_are.1, few_here)),
            eq-eqb (length (pairs_for f i) % 2) 0 (omega (arith, pairs_are.1)),
            flags-bits,
            pairs_are.0,
            all_fit,
          )

    -- ---- with a count each

    pub counts_apart : counted_parts (counts_for true f i) (pairs_for f i) ≡ cs
    unfolding pairs_for counts_for
    counts_apart = ap (counted_parts (map length cs)) (sym (append-nil (join_map (λ c. c) cs))) ∙ parts_apart cs []

    pub counts_long : length (counts_for true f i) ≡ length (of_island f i)
    unfolding counts_for
    counts_long = length-map cs length ∙ length_ends

    counts_pass : (end_count (counts_for true f i) ≡ length (pairs_for f i)) × (counts_known (counts_for true f i) ≡ true)
    unfolding pairs_for counts_for ends_of
    counts_pass = (joined_long cs, counts-known (ends_at f) (of_island f i) (λ n m. sized f ok n (live_here n m)))

    pub accepts_counts : multi_update_refusal (flags f) (pairs_for f i) (counts_for true f i) true ≡ 0
    unfolding multi_update_refusal
    accepts_counts =
        rw (
          few-flags,
          le-leb (length (counts_for true f i)) 8192 (omega (arith, counts_long, few_here)),
          eq-eqb (end_count (counts_for true f i)) (length (pairs_for f i)) counts_pass.0,
          flags-bits,
          counts_pass.1,
          counts_apart,
          all_fit,
        )

    -- the endpoints of the constraint of rank r
    pub ends_are : (r : ℕ) → r < length (of_island f i) → get_or cs r [] ≡ ends_at f (get_or (of_island f i) r 0)
    unfolding ends_of
    ends_are r h = get_or-map-lt (ends_at f) (of_island f i) r [] 0 h

    -- on tables with room the update is accepted
    pub accepted_pairs : counted ≡ false → (t : Tables) → roomy (length f.types) (length (of_island f i)) t ≡ true → refusal_with t (flags f) (pairs_for f i) ≡ 0
    unfolding refusal_with
    accepted_pairs v t room =
        let half : pair_count (pairs_for f i) ≡ length (of_island f i) = omega (arith, (pairs_are v).1) in
        let r : roomy (length (flags f)) (pair_count (pairs_for f i)) t ≡ true = rw (length-flags f, half) room in
        rw r (accepts v)

    pub accepted_counts : (t : Tables) (c : List ℕ) → multi_roomy t c (flags f) (pairs_for f i) (counts_for true f i) ≡ true → multi_refusal_with t c (flags f) (pairs_for f i) (counts_for true f i) ≡ 0
    unfolding multi_refusal_with
    accepted_counts t c room = rw room accepts_counts

    -- ---- few groups
    -- the constraints counted for b
    abbrev on_body : ℕ → Constraint → Bool
    on_body b c = touches f c && on b c

    degree-le : (b : ℕ) → conflicting f b ≡ true → count (on_body b) (constraints f) ≤ degree_max f
    unfolding degree degree_max
    degree-le b e = omega (arith, max_in (degree f) b (bodies f) (in_range b 0 nb (omega arith) (omega (arith, conflicting_below f b e))), deg)
      where
        deg : degree f b ≡ count (on_body b) (constraints f)
        deg = rw e

    -- a constraint of the island on b is counted for b
    on_here : (b n : ℕ) → one (eqb i (label f (constraint_at f n))) * one (mem b (ends_at f n)) ≤ one (on_body b (constraint_at f n))
    unfolding on
    on_here b n = by_cases (eqb i (label f (constraint_at f n)))
        (λ e. let t = island_touches f (constraint_at f n) (λ z. omega (arith, eqb-true i (label f (constraint_at f n)) e, islands-few f, ok.few_bodies)) in
        rw (e, t, touch_is_live f (constraint_at f n) t) (omega arith))
        (λ e. rw e (omega arith))

    island_degree : (b : ℕ) → count (mem b) cs ≤ count (on_body b) (constraints f)
    unfolding ends_of of_island constraint_at
    island_degree b =
        omega (
          arith,
          sum_map (λ xs. one (mem b xs)) (ends_at f) (of_island f i),
          sum_filter (λ n. one (mem b (ends_at f n))) (λ n. eqb i (label f (constraint_at f n))) (numbers f),
          sum_le (λ n. one (eqb i (label f (constraint_at f n))) * one (mem b (ends_at f n))) (λ n. one (on_body b (constraint_at f n))) (numbers f) (on_here b),
          sum_get_or (λ c. one (on_body b c)) nothing (constraints f),
        )

    -- the most endpoints of a constraint
    abbrev most : ℕ
    most = cond counted 4 2

    ends-flagged : all (λ bs. leb (length bs) most && any (flagged (flags f)) bs) cs ≡ true
    unfolding ends_of touches
    ends-flagged = all_map (λ bs. leb (length bs) most && any (flagged (flags f)) bs) (ends_at f) (of_island f i) ∙ all_intro (λ n. leb (length (ends_at f n)) most && any (flagged (flags f)) (ends_at f n)) (of_island f i)
        (λ n m. let t = (of_island_lem i n l m).2 in
        let o = any_out (dynamic f) (ends_at f n) (and_right (constraint_at f n).live (any (dynamic f) (ends_at f n)) t) in
        and_both (leb (length (ends_at f n)) most) (any (flagged (flags f)) (ends_at f n)) (le-leb (length (ends_at f n)) most (ends-few f ok n (live_here n m)))
        (any_in (flagged (flags f)) o.0 (ends_at f n) o.1 (flag_conflicts f o.0 ∙ dynamic-conflicts f o.0 o.2)))

    most-fits : 1 ≤ degree_max f → most * (degree_max f - 1) < most_groups counted (degree_max f)
    most-fits h = by_cases counted (λ v. rw v (omega arith)) (λ v. rw v (omega arith))

    -- no island has more than r × (D - 1) + 1 groups, r the most endpoints of a constraint
    pub groups_few : group_count colors ≤ most_groups counted (degree_max f)
    unfolding group_count colors_of
    groups_few = color_few (flags f) (degree_max f) most (most_groups counted (degree_max f)) most-fits [] [] cs
        (λ b e. omega (arith, island_degree b, degree-le b (sym (flag_conflicts f b) ∙ e)))
        ends-flagged (omega arith)

-- ---- what a plan says, as it stands in its tables

-- the lookups hand back the island's groups, members, bodies and positions
abbrev pub Stands : Frame → ℕ → Plan → Type 0
Stands f i p = Lookups (flags f) (ends_of f i) p

-- the definition's plan
pub plan_stands : (counted : Bool) (f : Frame) → Accepted counted f → (i : ℕ) → i < island_count f → Stands f i (plan_at counted f i)
unfolding plan_at counts_for
plan_stands false f ok i l = subst (λ (xs : List (List ℕ)). Lookups (flags f) xs (plan_at false f i)) (pairs_are f ok i l refl).0 (fresh_pairs (flags f) (pairs_for f i) (accepts f ok i l refl))
plan_stands true f ok i l = subst (λ (xs : List (List ℕ)). Lookups (flags f) xs (plan_at true f i)) (counts_apart f ok i l) (fresh-counts (flags f) (pairs_for f i) (counts_for true f i) (accepts_counts f ok i l))

-- the plan of an update, as its contract says
pub planned_stands : (counted : Bool) (f : Frame) → Accepted counted f → (i : ℕ) → i < island_count f → (p : Plan) → Planned counted f i p → Stands f i p
planned_stands false f ok i l p h =
    let fs = flags f in
    let ps = pairs_for f i in
    subst (λ (xs : List (List ℕ)). Lookups fs xs p) (pairs_are f ok i l refl).0
    (rw h.stands (updated_pairs fs ps h.before h.after h.answer (accepted_pairs f ok i l refl h.before h.room) h.updated))
planned_stands true f ok i l p h =
    let fs = flags f in
    let es = pairs_for f i in
    let cs = counts_for true f i in
    subst (λ (xs : List (List ℕ)). Lookups fs xs p) (counts_apart f ok i l)
    (rw h.stands (updated_counts fs es cs h.before h.after h.counts_before h.counts_after h.answer (accepted_counts f ok i l h.before h.counts_before h.room) h.updated))
