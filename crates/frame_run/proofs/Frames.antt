-- The constraints with label i in the frame's tables are those of island i, and what is collected for them are its endpoints and, with counts,
-- its counts. So the islands' calls made from the tables are the run's, and each island's update is accepted.
use Rattle.std.proofs.Common.{ℕ, ◌+◌, ◌*◌, ◌≤◌, ◌<◌, ◌≡◌, refl, sym, ap, ◌∙◌, Bool, true, false, ◌&&◌, List, [], ◌∷◌, map, arith, eqb, length, get_or, eqb-true, eq-eqb, ne_eqb}
use mathlib.Core.List.{map-map}
use Rattle.std.proofs.Math.ListN.{length-map, get_or-map}
use Rattle.std.proofs.lemmas.Bool.{eqb-false}
use Rattle.lists.specs.Basics.{join_map, range, mem, place}
use Rattle.lists.proofs.Laws.{by_cases, clashes, filter-mem, range_high, get_or-any, length-range, filter-length-le, count-few, sum_one, no_length, map_ext_in, place-lt, place_get}
use Rattle.lists.proofs.Ranges.{filter_ext_in, join_map_ext_in}
use Rattle.lists.proofs.Sums.{length-filter, sum_le, sum_times}
use Rattle.frame.specs.Frames.{Frame, constraints, constraint_at, nothing, numbers, bodies, conflicting, on, touches, flag_of, turn_count, degree, degree_sum}
use Rattle.frame.specs.Files.{second, count_m, count_j, types_in, decode}
use Rattle.frame.specs.Decodes.{all_counts}
use Rattle.frame.proofs.Files.{constraint-count, all_counts-first, all_counts_long}
use Rattle.connected_sets.specs.Islands.{island_count, label, of_island}
use Rattle.groups.specs.Groups.{pair_at, counted_parts, members}
use Rattle.groups.proofs.Members.{member_at}
use Rattle.schedules.specs.Runs.{Call, flags, ends_of, pairs_for, counts_for, plan_at, group_calls, schedule, rising, turn_of, turns_of, run_calls}
use Rattle.schedules.proofs.Accepted.{Accepted}
use Rattle.schedules.proofs.Plans.{ends_at, pairs_joined, accepts, counts_long, accepts_counts}
use Rattle.schedules.proofs.Condition3.{run_turns, run_takes}
use Rattle.island_numbers.specs.Numbers.{ends_among, counts_among}
use Rattle.island_numbers.proofs.Among.{ends_of_pairs, counts_of_pairs, counts_of_counted}
use Rattle.turn_table.specs.Turns.{none, Room}
use Rattle.group_run.specs.Appends.{calls_in, plan_calls, added_by}
use Rattle.one_island.specs.Island.{island_calls, fresh_refusal, ranks}
use Rattle.island_run.specs.Islands.{calls_at, calls_of}
use Rattle.frame_tables.proofs.Tables.{some_counts}
use Rattle.frame_tables.proofs.Labels.{frame_labels}
use Rattle.frame_run.proofs.Ends.{all_ends, pair_ends, part-ends, part-count}

-- three entries a turn
pub turns_long : (cs : List Call) → length (join_map turn_of cs) ≡ 3 * length cs
turns_long [] = refl
turns_long (c ∷ cs) = omega (arith, turns_long cs)

-- so many constraints are listed as their endpoints and counts tell
pub ranked : (counts ends ns : List ℕ) → length ns ≡ ranks (counts_among counts ns) (ends_among counts ends ns)
unfolding counts_among ends_among
ranked counts ends [] = by_cases (eqb (length counts) 0) (λ e. rw e refl) (λ e. rw e refl)
ranked counts ends (n ∷ ns) = by_cases (eqb (length counts) 0)
    (λ e.
    let z = eqb-true (length counts) 0 e in
    rw (counts_of_pairs counts (n ∷ ns) z) (omega (arith, ends_of_pairs counts (n ∷ ns) z ends)))
    (λ e. rw (counts_of_counted counts (n ∷ ns) (eqb-false (length counts) 0 e), ne_eqb (length (n ∷ ns)) 0 (λ z. omega arith)) refl)

-- ---- the constraints of an island

module _ (f : Frame) where
  pub members_are : (i : ℕ) → members (map (label f) (constraints f)) i ≡ of_island f i
  unfolding members of_island constraint_at
  members_are i =
      rw (length-map (constraints f) (label f))
      (filter_ext_in _ _ (numbers f)
      (λ n m.
      let h : n < length (map (label f) (constraints f)) = omega (arith, range_high n 0 (length (constraints f)) m, length-map (constraints f) (label f)) in
      ap (eqb i) (get_or-any (map (label f) (constraints f)) n 0 (label f nothing) h ∙ get_or-map (label f) (constraints f) n nothing)))

  -- they have numbers of the frame
  of_frame : (i n : ℕ) → mem n (of_island f i) ≡ true → n < length (constraints f)
  unfolding of_island
  of_frame i n m = omega (arith, range_high n 0 (length (constraints f)) (filter-mem (λ k. eqb i (label f (constraint_at f k))) n (numbers f) m).0)

  of_none : (i : ℕ) → length (constraints f) ≡ 0 → of_island f i ≡ []
  unfolding of_island
  of_none i z = no_length (of_island f i) (omega (arith, filter-length-le (λ n. eqb i (label f (constraint_at f n))) (numbers f), length-range 0 (length (constraints f)), z))

  -- an island has some
  module _ {counted : Bool} (ok : Accepted counted f) (i : ℕ) (l : i < island_count f) where
    some_here : length (of_island f i) ≡ 0 → ⊥
    some_here z =
        let labels = map (label f) (constraints f) in
        let m = (frame_labels f ok).each i l in
        let r = place i labels in
        let here : mem r (members labels i) ≡ true = member_at labels i r (place-lt i labels m) ∙ eq-eqb i (get_or labels r 0) (sym (place_get i labels m)) in
        clashes (mem r (members labels i)) here (rw (members_are i, no_length (of_island f i) z))

-- its update is accepted, as pairs or with counts
fresh_accepted : (counted : Bool) (f : Frame) → Accepted counted f → (i : ℕ) → i < island_count f → fresh_refusal (flags f) (counts_for counted f i) (pairs_for f i) ≡ 0
unfolding counts_for
fresh_accepted false f ok i l = accepts f ok i l refl
fresh_accepted true f ok i l = rw (ne_eqb (length (counts_for true f i)) 0 (λ z. some_here f ok i l (sym (counts_long f ok i l) ∙ z))) (accepts_counts f ok i l)

-- ---- what is collected

module _ (bs : List ℕ) where
  abbrev f : Frame
  f = decode bs

  abbrev ends : List ℕ
  ends = all_ends bs

  abbrev counts : List ℕ
  counts = all_counts bs

  ends_are : (i : ℕ) → ends_among counts ends (of_island f i) ≡ pairs_for f i
  unfolding ends_among
  ends_are i = rw (pairs_joined f i) (by_cases (eqb (length counts) 0)
      (λ z. rw z (join_map_ext_in (pair_at ends) (ends_at f) (of_island f i) (λ n m. pair_ends bs (eqb-true (length counts) 0 z) n (of_frame f i n m))))
      (λ z. rw z (join_map_ext_in (λ n. get_or (counted_parts counts ends) n []) (ends_at f) (of_island f i) (λ n m. part-ends bs (some_counts bs (eqb-false (length counts) 0 z)) n))))

  counts-second : second bs ≡ true → (i : ℕ) → counts_among counts (of_island f i) ≡ counts_for true f i
  unfolding counts_among counts_for ends_of
  counts-second v i = by_cases (eqb (length counts) 0)
      (λ z. rw (z, of_none f i (omega (arith, constraint-count bs, all_counts_long bs v, eqb-true (length counts) 0 z))) refl)
      (λ z. rw z (map_ext_in (λ n. get_or counts n 0) (λ n. length (ends_at f n)) (of_island f i) (λ n m. part-count bs v n) ∙ sym (map-map length (ends_at f) (of_island f i))))

  counts_are : (i : ℕ) → counts_among counts (of_island f i) ≡ counts_for (second bs) f i
  unfolding counts_for
  counts_are i = by_cases (second bs)
      (λ v. counts-second v i ∙ ap (λ (b : Bool). counts_for b f i) (sym v))
      (λ v. counts_of_pairs counts (of_island f i) (ap length (all_counts-first bs v)) ∙ ap (λ (b : Bool). counts_for b f i) (sym v))

  -- ---- the calls

  abbrev labels : List ℕ
  labels = map (label f) (constraints f)

  island_calls_lem : (i : ℕ) → calls_at (types_in bs) (map flag_of (types_in bs)) counts ends labels i ≡ join_map (group_calls f (plan_at (second bs) f) (rising (plan_at (second bs) f)) i) (range (plan_at (second bs) f i).groups)
  unfolding calls_at island_calls plan_calls calls_in group_calls rising plan_at flags decode
  island_calls_lem i = rw (members_are f i, ends_are i, counts_are i)

  pub calls_are : calls_of (types_in bs) (map flag_of (types_in bs)) counts ends labels (island_count f) ≡ run_calls (second bs) f
  unfolding calls_of schedule
  calls_are = join_map_ext_in _ _ (range (island_count f)) (λ i m. island_calls_lem i)

  module _ (ok : Accepted (second bs) f) where
    pub updates_accepted : (i : ℕ) → i < island_count f → fresh_refusal (map flag_of (types_in bs)) (counts_among counts (members labels i)) (ends_among counts ends (members labels i)) ≡ 0
    unfolding flags decode
    updates_accepted i h = rw (members_are f i, ends_are i, counts_are i) (fresh_accepted (second bs) f ok i h)

    -- ---- their room
    turns_few : turn_count f ≤ count_m bs + count_j bs
    unfolding turn_count
    turns_few = omega (arith, length-filter (touches f) (constraints f), filter-length-le (touches f) (constraints f), constraint-count bs)

    degree-few : (b : ℕ) → degree f b ≤ 8192 * 1
    unfolding degree
    degree-few b = by_cases (conflicting f b)
        (λ t. rw t (omega (arith, count-few (λ c. touches f c && on b c) (constraints f), ok.few_constraints)))
        (λ t. rw t (omega arith))

    takes_few : degree_sum f ≤ 4096 * 8192
    unfolding degree_sum
    takes_few = omega (
      arith,
      sum_le (degree f) (λ b. 8192 * 1) (bodies f) degree-few,
      sum_times 8192 (λ (b : ℕ). 1) (bodies f),
      sum_one (bodies f),
      length-range 0 (length f.types),
      ok.few_bodies,
    )

    pub run_room : (ts : List ℕ) → 3 * (count_m bs + count_j bs) ≤ length ts → Room (added_by (run_calls (second bs) f)) ts none
    run_room ts h = record {
      places = omega (arith, turns_long (turns_of (run_calls (second bs) f)), run_turns f ok, turns_few);
      count = omega (arith, run_takes f ok, takes_few);
    }
