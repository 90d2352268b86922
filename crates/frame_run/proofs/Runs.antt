-- Once the tables are filled, the islands' calls are the run's, or none after 7. Their endpoints and counts can be collected, and they fit the
-- turn table by the theorem: a turn for each constraint that touches a dynamic body.
use Rattle.std.proofs.Common.{ℕ, ◌+◌, ◌*◌, ◌/◌, ◌≤◌, ◌<◌, ◌≡◌, refl, sym, ap, ◌∙◌, Result, Bool, true, false, cond, List, [], ◌∷◌, ◌++◌, map, arith, ltb, eqb, length, take, lt-ltb, eqb-true}
use Rattle.std.proofs.Math.ListN.{length-map}
use Rattle.std.proofs.Math.Seq.{length_paste_head}
use Rattle.std.proofs.lemmas.Bool.{eqb-false}
use Rattle.lists.specs.Basics.{join_map}
use Rattle.lists.proofs.Laws.{by_cases}
use Rattle.lists.proofs.Puts.{put_first}
use Rattle.frame.specs.declared.refusal.Refusal.{Refusal}
use Rattle.frame.specs.Refusals.{refused_by}
use Rattle.frame.specs.Frames.{Frame, constraints, all_sound, flag_of}
use Rattle.frame.specs.Questions.{question, asked}
use Rattle.frame.specs.Files.{second, count_b, count_m, count_j, types_in, joint_ends_in, decode, file_questions}
use Rattle.frame.specs.Decodes.{all_counts}
use Rattle.frame.proofs.Questions.{asked-append}
use Rattle.frame.proofs.Files.{file_sized, file-types, types_long, file-ends, ends-first_long, all_counts-first, all_counts_long}
use Rattle.connected_sets.specs.Islands.{island_count, label}
use Rattle.island.specs.Calls.{IslandTables}
use Rattle.island.proofs.Built.{built_as}
use Rattle.groups.specs.Groups.{members}
use Rattle.plan_questions.specs.Plans.{Tables}
use Rattle.plan_questions.proofs.Rooms.{fitted_with}
use Rattle.colored_bodies.specs.Bindings.{Known}
use Rattle.schedules.specs.Runs.{turn_of, turns_of, takes_of, run_calls, run_refusal, run_of}
use Rattle.island_numbers.specs.Numbers.{by_island, ends_among, counts_among, Collectable}
use Rattle.island_numbers.proofs.Among.{sorted-all, all_pairs, all-ends, all-counts}
use Rattle.turn_table.specs.declared.Tally.{Tally}
use Rattle.turn_table.specs.Turns.{none, Room, Appended}
use Rattle.group_run.specs.Appends.{added_by}
use Rattle.one_island.specs.Island.{fresh_refusal}
use Rattle.island_run.specs.Islands.{calls_of, Prepared}
use Rattle.island_run.proofs.Rooms.{SameLengths, room_kept}
use Rattle.frame_tables.specs.declared.Filling.{Filling}
use Rattle.frame_tables.specs.Filled.{labels_in, sound_refusal, islands_in, degree_in, Fills, Roomy}
use Rattle.frame_tables.proofs.Tables.{some_counts, file_accepted, labels_are, labels_sortable}
use Rattle.run_answer.specs.declared.Report.{Report}
use Rattle.run_answer.specs.Answers.{run_report, AnswerOf}
use Rattle.run_answer.specs.Lent.{entries_for}
use Rattle.frame_run.specs.Sized.{RoomySized, RanSized}
use Rattle.frame_run.proofs.Ends.{all_ends, ends_long, pairs_long, counts_whole, all-known}
use Rattle.frame_run.proofs.Frames.{turns_long, ranked, calls_are, updates_accepted, run_room}

-- the room that filling the tables needs
pub roomy_of : (bs : List ℕ) (is : IslandTables) (ts ip ic ns : List ℕ) (t : Tables) (pc : List ℕ) → RoomySized bs is ts ip ic ns t pc
    → Roomy bs is ns t.constraint_colors t.scratch_offsets t.color_offsets t.body_stamps
roomy_of bs is ts ip ic ns t pc h =
    let w = fitted_with (count_b bs) (count_m bs + count_j bs) (entries_for (second bs) (count_m bs) (count_j bs)) t h.tables in
    record {
      islands = h.islands;
      numbers = h.numbers;
      keys = w.1.1.1.1.1.1.0;
      scratch = w.1.1.1.1.1.0;
      offsets = w.1.1.1.1.1.1.1.1.1.0;
      on_bodies = w.1.1.1.1.1.1.1.1.0;
    }

-- questions 6 and 7 come after those of the file
pub all_asked : (bs : List ℕ) (room : Bool) → run_refusal bs room ≡ cond (eqb (asked (file_questions bs)) 0) (cond room (sound_refusal bs) 6) (asked (file_questions bs))
unfolding run_refusal sound_refusal
all_asked bs room = asked-append (file_questions bs) (question 6 room ∷ question 7 (all_sound (decode bs)) ∷ []) refl

module _ (bs : List ℕ) (e : asked (file_questions bs) ≡ 0) where
  abbrev f : Frame
  f = decode bs

  -- where questions 1 to 6 are passed, 7 is left
  run_refusal_lem : run_refusal bs true ≡ sound_refusal bs
  run_refusal_lem = all_asked bs true ∙ rw e

  -- ---- the room for all endpoints and counts

  pub entries-few : 2 * count_m bs + length (joint_ends_in bs) ≤ entries_for (second bs) (count_m bs) (count_j bs)
  entries-few = by_cases (second bs)
      (λ v. omega (arith, ap (λ (b : Bool). entries_for b (count_m bs) (count_j bs)) v, (file-ends bs e).1))
      (λ v. omega (arith, ap (λ (b : Bool). entries_for b (count_m bs) (count_j bs)) v, ends-first_long bs v))

  counts-few : (length (all_counts bs) ≤ 8192) × (2 * length (all_counts bs) ≤ entries_for (second bs) (count_m bs) (count_j bs))
  counts-few = by_cases (second bs)
      (λ v.
      let s = file_sized bs e in
      let x = ap (λ (b : Bool). entries_for b (count_m bs) (count_j bs)) v in
      (omega (arith, all_counts_long bs v, s.manifolds, s.joints), omega (arith, all_counts_long bs v, x)))
      (λ v. (omega (arith, ap length (all_counts-first bs v)), omega (arith, ap length (all_counts-first bs v))))

  -- those of the sorted numbers can be collected
  module _ (islands : ℕ) (labels : List ℕ) (long : length labels ≡ count_m bs + count_j bs) (bounds ip ic : List ℕ)
      (room : entries_for (second bs) (count_m bs) (count_j bs) ≤ length bounds) (le : length ip ≡ 2 * count_m bs + length (joint_ends_in bs)) (lc : length ic ≡ length (all_counts bs)) where
    abbrev counts : List ℕ
    counts = all_counts bs

    abbrev ends : List ℕ
    ends = all_ends bs

    many : (length counts ≡ 0 → ⊥) → length counts ≡ length labels
    many n = all_counts_long bs (some_counts bs n) ∙ sym long

    all_listed : length (ends_among counts ends (by_island islands labels)) ≡ length ends
    all_listed = by_cases (eqb (length counts) 0)
        (λ z. let o = eqb-true (length counts) 0 z in all_pairs islands labels counts ends o (pairs_long bs o ∙ ap (λ (n : ℕ). 2 * n) (sym long)))
        (λ z. let n = eqb-false (length counts) 0 z in all-ends islands labels counts ends n (many n) (counts_whole bs (some_counts bs n)))

    collectable : Collectable counts ends (by_island islands labels) bounds ip ic
    collectable = record {
      pairs = λ z. sorted-all islands labels (λ n. ltb (2 * n + 1) (length ends)) (λ n h. lt-ltb (2 * n + 1) (length ends) (omega (arith, pairs_long bs z, long)));
      counted = λ n. sorted-all islands labels (λ k. ltb k (length counts)) (λ k h. lt-ltb k (length counts) (omega (arith, many n)));
      few = counts-few.0;
      known = all-known bs e;
      whole = λ n. counts_whole bs (some_counts bs n);
      bounds_room = omega (arith, counts-few.1);
      ends_long = le ∙ sym (ends_long bs) ∙ sym all_listed;
      counts_long = lc ∙ sym (all-counts islands labels counts ends many);
    }

  -- ---- the tables, filled

  module _ (ts fs ps cs es : List ℕ) (is is' : IslandTables) (ns : List ℕ) (r : Result Filling Refusal) (h : Fills bs ts fs ps cs es is is' ns r) where
    abbrev mi : List ℕ
    mi = is'.manifold_islands

    abbrev ji : List ℕ
    ji = is'.joint_islands

    abbrev labels : List ℕ
    labels = labels_in bs mi ji

    sound-labels : all_sound f ≡ true → labels ≡ map (label f) (constraints f)
    sound-labels t = labels_are bs e is is' (refused_by r) (islands_in r) h.islands ∙ rw t

    sound-islands : all_sound f ≡ true → islands_in r ≡ island_count f
    unfolding sound_refusal
    sound-islands t = rw t at h.islands.count

    no_islands : all_sound f ≡ false → islands_in r ≡ 0
    unfolding sound_refusal
    no_islands t = rw t at h.islands.count

    calls_of_lem : calls_of ts fs cs ps labels (islands_in r) ≡ cond (all_sound f) (run_calls (second bs) f) []
    unfolding calls_of
    calls_of_lem = rw (h.decoded.types, h.decoded.flags, h.decoded.ends, h.decoded.counts) (by_cases (all_sound f)
        (λ t. rw (t, sound-labels t, sound-islands t) (calls_are bs))
        (λ t. rw (t, no_islands t)))

    room_for : (tt : List ℕ) → 3 * (count_m bs + count_j bs) ≤ length tt → Room (added_by (calls_of ts fs cs ps labels (islands_in r))) tt none
    unfolding turns_of takes_of
    room_for tt l = rw calls_of_lem (by_cases (all_sound f)
        (λ t. rw t (run_room bs (file_accepted bs e t) tt l))
        (λ t. rw t (record { places = omega arith; count = omega arith })))

    all_accepted : (i : ℕ) → i < islands_in r → fresh_refusal fs (counts_among cs (members labels i)) (ends_among cs ps (members labels i)) ≡ 0
    all_accepted i l = by_cases (all_sound f)
        (λ t. rw (h.decoded.flags, h.decoded.ends, h.decoded.counts, sound-labels t) (updates_accepted bs (file_accepted bs e t) i (omega (arith, sound-islands t))))
        (λ t. absurd (omega (arith, no_islands t)))

    labels_long : count_m bs ≤ length mi → count_j bs ≤ length ji → length labels ≡ count_m bs + count_j bs
    labels_long a b = length_paste_head mi (count_m bs) ji (count_j bs) a b

    -- the tables of labels, cut as the code cuts them
    fronts : (m j : ℕ) → m ≡ count_m bs → j ≡ count_j bs → take m mi ++ take j ji ≡ labels
    fronts m j em ej = rw (em, ej)

    flags_long : length fs ≡ count_b bs
    flags_long = ap length h.decoded.flags ∙ length-map (types_in bs) flag_of ∙ types_long bs e

    module _ (is0 : IslandTables) (tt ip ic n0 : List ℕ) (t u : Tables) (pc : List ℕ) (q : RoomySized bs is0 tt ip ic n0 t pc) (same : SameLengths t u)
        (a : count_m bs ≤ length mi) (b : count_j bs ≤ length ji) where
      prepared : Prepared (islands_in r) fs cs ps labels ns ip ic u pc
      prepared =
          let l = labels_long a b in
          let w = fitted_with (count_b bs) (count_m bs + count_j bs) (entries_for (second bs) (count_m bs) (count_j bs)) t q.tables in
          record {
            labels_are = labels_sortable bs e is is' (refused_by r) (islands_in r) h.islands;
            numbers_are = h.numbers;
            collectable = rw (h.decoded.ends, h.decoded.counts, h.numbers) (collectable (islands_in r) labels l u.body_constraints ip ic (omega (arith, w.1.1.1.0, same.body_constraints)) q.island_pairs q.island_counts);
            accepted = all_accepted;
            ranked = λ i k. ranked cs ps (members labels i);
            tables = rw (flags_long, l) (room_kept (count_b bs) (count_m bs + count_j bs) (count_m bs + count_j bs) (entries_for (second bs) (count_m bs) (count_j bs)) (length ip) t u (omega arith) (omega (arith, q.island_pairs, entries-few)) same q.tables);
            plan_counts_room = omega (arith, q.island_counts, q.plan_counts);
          }

      pub prepared_cut : (m j : ℕ) → m ≡ count_m bs → j ≡ count_j bs → Prepared (islands_in r) fs cs ps (take m mi ++ take j ji) ns ip ic u pc
      prepared_cut m j em ej = rw (fronts m j em ej) prepared

    module _ (m j : ℕ) (em : m ≡ count_m bs) (ej : j ≡ count_j bs) where
      abbrev cut : List ℕ
      cut = take m mi ++ take j ji

      pub room_cut : (tt : List ℕ) → 3 * (count_m bs + count_j bs) ≤ length tt → Room (added_by (calls_of ts fs cs ps cut (islands_in r))) tt none
      room_cut tt l = rw (fronts m j em ej) (room_for tt l)

    -- questions 3 and 5 of a bind are the file's
    pub types_are_known : Known ts
    types_are_known = rw h.decoded.types (omega (arith, types_long bs e, (file_sized bs e).bodies), file-types bs e)

    -- ---- the answer

    module _ (m j : ℕ) (em : m ≡ count_m bs) (ej : j ≡ count_j bs) (tt tt' : List ℕ) (tally : Tally) (answer : Result Report Refusal)
        (added : Appended (added_by (calls_of ts fs cs ps (take m mi ++ take j ji) (islands_in r))) tt none tt' tally) (told : AnswerOf r tally answer) where
      done : Appended (added_by (cond (all_sound f) (run_calls (second bs) f) [])) tt none tt' tally
      done = rw (fronts m j em ej, calls_of_lem) at added

      refusal_is : refused_by r ≡ sound_refusal bs
      refusal_is = h.islands.refusal

      sound_ran : all_sound f ≡ true → RanSized bs is tt is' tt' answer
      unfolding sound_refusal run_of
      sound_ran t =
          let d : Appended (added_by (run_calls (second bs) f)) tt none tt' tally = rw t at done in
          let z : refused_by r ≡ 0 = rw t at refusal_is in
          let q : run_refusal bs true ≡ 0 = rw t at run_refusal_lem in
          let p : tally.place / 3 ≡ length (turns_of (run_calls (second bs) f)) = omega (arith, d.place, turns_long (turns_of (run_calls (second bs) f))) in
          let k : tally.takes ≡ takes_of (run_calls (second bs) f) = omega (arith, d.takes) in
          let rep : run_report answer ≡ record { islands = islands_in r; turns = tally.place / 3; takes = tally.takes; degree = degree_in r } = rw z at told.report in
          record {
            refusal = told.refusal ∙ refusal_is;
            refused = told.refused ∙ rw refusal_is;
            report = rep ∙ rw (q, p, k, sound-islands t, rw t at h.degree);
            turns = d.table ∙ put_first (join_map turn_of (turns_of (run_calls (second bs) f))) tt ∙ rw q;
            islands = built_as (sym told.refusal) (sym (ap (λ (x : Report). x.islands) rep)) h.islands;
          }

      refused_ran : all_sound f ≡ false → RanSized bs is tt is' tt' answer
      unfolding sound_refusal run_of turns_of
      refused_ran t =
          let d : Appended (added_by []) tt none tt' tally = rw t at done in
          let z : refused_by r ≡ 7 = rw t at refusal_is in
          let q : run_refusal bs true ≡ 7 = rw t at run_refusal_lem in
          let rep : run_report answer ≡ record { islands = 0; turns = 0; takes = 0; degree = 0 } = rw z at told.report in
          record {
            refusal = told.refusal ∙ refusal_is;
            refused = told.refused ∙ rw refusal_is;
            report = rep ∙ rw q;
            turns = d.table ∙ put_first [] tt ∙ rw q;
            islands = built_as (sym told.refusal) (no_islands t ∙ sym (ap (λ (x : Report). x.islands) rep)) h.islands;
          }

      pub ran : RanSized bs is tt is' tt' answer
      ran = by_cases (all_sound f) sound_ran refused_ran
