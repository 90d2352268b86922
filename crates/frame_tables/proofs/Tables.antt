-- Once questions 1 to 6 are passed, an islands call asks only 7, with counts or without. Its labels, read from the front of the lent tables,
-- are the frame's, or none after 7, and either way they can be sorted.
use Rattle.std.proofs.Common.{ℕ, ◌+◌, ◌*◌, ◌/◌, ◌%◌, ◌≤◌, ◌≡◌, refl, sym, ap, ◌∙◌, subst, true, false, cond, List, Result, Ok, Err, [], ◌∷◌, ◌++◌, map, arith, eqb, length, take, drop, replicate, take_at, drop_at, length-take-le, le-leb, eq-eqb, eqb-true, length-append}
use Rattle.std.proofs.Math.ListN.{length-map, length-replicate, replicate-append-replicate}
use Rattle.std.proofs.Math.Seq.{drop-nil}
use Rattle.std.proofs.lemmas.Bool.{eqb-false}
use Rattle.lists.proofs.Laws.{by_cases, no_length}
use Rattle.lists.proofs.Ranges.{map-append}
use Rattle.frame.specs.declared.Lists.{Lists}
use Rattle.frame.specs.declared.refusal.Refusal.{Refusal}
use Rattle.frame.specs.Lists.{frame_in}
use Rattle.frame.specs.Refusals.{refused_by}
use Rattle.frame.specs.Frames.{Frame, constraints, none, end_count, all_sound, degree_max}
use Rattle.frame.specs.Questions.{question, asked, few_each}
use Rattle.frame.specs.Files.{second, count_m, count_j, types_in, manifolds_in, joint_ends_in, counts_in, live_in, decode, file_questions, frame_refusal}
use Rattle.frame.specs.Decodes.{all_counts, Decoded}
use Rattle.frame.proofs.Questions.{asked-append}
use Rattle.frame.proofs.Files.{Sized, manifolds-count, joints-count, constraint-count, file_sized, file-known, file-counts, types_long, manifold_ends_long, live_in_long, ends-first_long, counts-second_long, ends-second_long, all_counts-second, all_counts_long}
use Rattle.connected_sets.specs.Islands.{label}
use Rattle.island.specs.Calls.{IslandTables, Rooms, rooms_of, island_refusal, multi_island_refusal, labels_after, Built}
use Rattle.island.specs.Answers.{answer_islands}
use Rattle.frame.proofs.Answered.{numbered}
use Rattle.schedules.proofs.Accepted.{Accepted, accepted}
use Rattle.island_numbers.specs.Numbers.{Labels, Sortable, by_island}
use Rattle.frame_parts.specs.Parts.{Standing, standing_refusal, Countable}
use Rattle.frame_tables.specs.Filled.{Roomy, Fills, labels_in, sound_refusal}
use Rattle.frame_tables.proofs.Labels.{frame_labels, none-labels}

-- ---- the counts of a file's constraints

module _ (bs : List ℕ) where
  -- behind those of the manifolds, the joints'
  pub joint_counts : drop (count_m bs) (all_counts bs) ≡ counts_in bs
  joint_counts = by_cases (second bs)
      (λ v. rw (all_counts-second bs v) (drop_at (replicate (count_m bs) 2) (counts_in bs) (count_m bs) (length-replicate {A = ℕ} (count_m bs) 2)))
      (λ v. rw v (drop-nil (count_m bs)))

  -- without them all joints are pairs
  pub no_counts : length (all_counts bs) ≡ 0 → (counts_in bs ≡ []) × (length (joint_ends_in bs) ≡ 2 * count_j bs)
  no_counts z = by_cases (second bs)
      (λ v.
      let c : counts_in bs ≡ [] = no_length (counts_in bs) (omega (arith, all_counts_long bs v, counts-second_long bs v)) in
      (c, omega (arith, ends-second_long bs v, ap end_count c, counts-second_long bs v, ap length c)))
      (λ v. (rw v, ends-first_long bs v))

  -- they make no more endpoints than there are
  pub ends_enough : end_count (counts_in bs) ≤ length (joint_ends_in bs)
  ends_enough = by_cases (second bs)
      (λ v. omega (arith, ends-second_long bs v))
      (λ v. let none : counts_in bs ≡ [] = rw v in omega (arith, ap end_count none))

  pub some_counts : (length (all_counts bs) ≡ 0 → ⊥) → second bs ≡ true
  some_counts n = by_cases (second bs) (λ v. v) (λ v. absurd (n (rw v)))

module _ (bs : List ℕ) (e : asked (file_questions bs) ≡ 0) where
  abbrev s : Sized bs
  s = file_sized bs e

  abbrev f : Frame
  f = decode bs

  pub few_constraints : length (constraints f) ≤ 8192
  few_constraints = omega (arith, constraint-count bs, s.manifolds, s.joints)

  pub file_accepted : all_sound f ≡ true → Accepted (second bs) f
  unfolding frame_refusal
  file_accepted t = accepted bs (asked-append (file_questions bs) (question 7 (all_sound f) ∷ []) refl ∙ rw (e, t))

  -- ---- the labels that an islands call leaves

  module _ (t u : IslandTables) (k n : ℕ) (built : Built f (sound_refusal bs) t u k n) where
    front_labels : (old new labels : List ℕ) (c : ℕ) → length labels ≡ c → new ≡ labels_after (sound_refusal bs) labels old → take c new ≡ cond (all_sound f) labels (replicate c none)
    unfolding sound_refusal labels_after
    front_labels old new labels c l en = by_cases (all_sound f)
        (λ ok. rw ok (ap (take c) (rw ok at en) ∙ take_at labels (drop (length labels) old) c l))
        (λ ok. rw ok (ap (take c) (rw ok at en) ∙ ap (λ (x : ℕ). take c (replicate x none ++ drop (length (replicate x none)) old)) l ∙ take_at (replicate c none) (drop (length (replicate c none)) old) c (length-replicate c none)))

    pub labels_are : labels_in bs u.manifold_islands u.joint_islands ≡ cond (all_sound f) (map (label f) (constraints f)) (replicate (count_m bs + count_j bs) none)
    labels_are =
        let a = front_labels t.manifold_islands u.manifold_islands (map (label f) f.manifolds) (count_m bs) (length-map f.manifolds (label f) ∙ manifolds-count bs) built.manifold_labels in
        let b = front_labels t.joint_islands u.joint_islands (map (label f) f.joints) (count_j bs) (length-map f.joints (label f) ∙ joints-count bs) built.joint_labels in
        rw (a, b) (by_cases (all_sound f)
        (λ ok. rw ok (sym (map-append (label f) f.manifolds f.joints)))
        (λ ok. rw ok (replicate-append-replicate (count_m bs) (count_j bs) none)))

    pub labels_sortable : Labels n (labels_in bs u.manifold_islands u.joint_islands)
    unfolding sound_refusal
    labels_sortable = rw labels_are (by_cases (all_sound f)
        (λ ok. rw (ok, rw ok at built.count) (frame_labels f (file_accepted ok)))
        (λ ok. rw (ok, rw ok at built.count) (none-labels (count_m bs + count_j bs) (omega (arith, s.manifolds, s.joints)))))

  -- ---- the frame that stands in the decoded tables

  module _ (m : ℕ) (ts fs ps cs es : List ℕ) (em : m ≡ count_m bs) (d : Decoded bs ts fs ps cs es) where
    -- the manifolds' endpoints and counts are there
    pub pairs_inside : 2 * m ≤ length ps
    pairs_inside = omega (arith, ap length d.ends, length-append (manifolds_in bs) (joint_ends_in bs), manifold_ends_long bs, em)

    counted-second : (length cs ≡ 0 → ⊥) → second bs ≡ true
    counted-second n = some_counts bs (λ z. n (ap length d.counts ∙ z))

    pub counts_inside : (length cs ≡ 0 → ⊥) → m ≤ length cs
    counts_inside n = omega (arith, ap length d.counts, all_counts_long bs (counted-second n), em)

    module _ (l : Lists) (stands : Standing ts ps m cs es l) where
      types-are : l.types.now ≡ types_in bs
      types-are = stands.types ∙ d.types

      front : l.manifolds.now ≡ manifolds_in bs
      front = stands.manifolds ∙ rw (d.ends, em) (take_at (manifolds_in bs) (joint_ends_in bs) (2 * count_m bs) (manifold_ends_long bs))

      rest : l.joint_ends.now ≡ joint_ends_in bs
      rest = stands.joint_ends ∙ rw (d.ends, em) (drop_at (manifolds_in bs) (joint_ends_in bs) (2 * count_m bs) (manifold_ends_long bs))

      joints-counted : l.joint_counts.now ≡ counts_in bs
      joints-counted = stands.joint_counts ∙ rw (d.counts, em) (joint_counts bs)

      live-are : l.enabled.now ≡ live_in bs
      live-are = stands.enabled ∙ d.enabled

      frame_is : frame_in l ≡ f
      unfolding decode
      frame_is = rw (types-are, front, rest, joints-counted, live-are)

      -- without counts of joints all joints are pairs
      none_counted : length l.joint_counts.now ≡ 0 → (counts_in bs ≡ []) × (length (joint_ends_in bs) ≡ 2 * count_j bs)
      none_counted z = by_cases (second bs)
          (λ v.
          let c : counts_in bs ≡ [] = no_length (counts_in bs) (ap length (sym joints-counted) ∙ z) in
          (c, omega (arith, ends-second_long bs v, ap end_count c, counts-second_long bs v, ap length c)))
          (λ v. (rw v, ends-first_long bs v))

      -- with them the file is of version 2
      some_counted : (length l.joint_counts.now ≡ 0 → ⊥) → second bs ≡ true
      some_counted n = by_cases (second bs) (λ v. v) (λ v. absurd (n (ap length joints-counted ∙ rw v refl)))

      module _ (t : IslandTables) (ns ks ss os ds : List ℕ) (room : Roomy bs t ns ks ss os ds) where
        abbrev rooms : Rooms
        rooms = rooms_of t

        pairs_refusal : length l.joint_counts.now ≡ 0 → island_refusal l.types.now l.manifolds.now l.joint_ends.now l.enabled.now rooms ≡ sound_refusal bs
        unfolding island_refusal sound_refusal few_each decode
        pairs_refusal z =
            let lm = manifold_ends_long bs in
            let no = none_counted z in
            let lj = no.1 in
            rw (
              front,
              rest,
              types-are,
              live-are,
              no.0,
              le-leb (length (types_in bs)) 4096 (omega (arith, types_long bs e, s.bodies)),
              le-leb (length (manifolds_in bs) / 2) 4096 (omega (arith, lm, s.manifolds)),
              le-leb (length (joint_ends_in bs) / 2) 4096 (omega (arith, lj, s.joints)),
              eq-eqb (length (manifolds_in bs) % 2) 0 (omega (arith, lm)),
              eq-eqb (length (joint_ends_in bs) % 2) 0 (omega (arith, lj)),
              eq-eqb (length (live_in bs)) (length (joint_ends_in bs) / 2) (omega (arith, lj, live_in_long bs)),
              file-known bs e,
              le-leb (length (types_in bs)) (length t.parents) (omega (arith, types_long bs e, room.islands.parents)),
              le-leb (length (types_in bs)) (length t.sizes) (omega (arith, types_long bs e, room.islands.sizes)),
              le-leb (length (types_in bs)) (length t.body_islands) (omega (arith, types_long bs e, room.islands.body_islands)),
              le-leb (length (manifolds_in bs) / 2) (length t.manifold_islands) (omega (arith, lm, room.islands.manifold_islands)),
              le-leb (length (joint_ends_in bs) / 2) (length t.joint_islands) (omega (arith, lj, room.islands.joint_islands)),
            )

        counts-refusal : (length l.joint_counts.now ≡ 0 → ⊥) → multi_island_refusal l.types.now l.manifolds.now l.joint_ends.now l.joint_counts.now l.enabled.now rooms ≡ sound_refusal bs
        unfolding multi_island_refusal sound_refusal few_each decode
        counts-refusal n =
            let lm = manifold_ends_long bs in
            let v = some_counted n in
            let lc = counts-second_long bs v in
            rw (
              front,
              rest,
              joints-counted,
              types-are,
              live-are,
              le-leb (length (types_in bs)) 4096 (omega (arith, types_long bs e, s.bodies)),
              le-leb (length (manifolds_in bs) / 2) 4096 (omega (arith, lm, s.manifolds)),
              le-leb (length (counts_in bs)) 4096 (omega (arith, lc, s.joints)),
              eq-eqb (length (manifolds_in bs) % 2) 0 (omega (arith, lm)),
              eq-eqb (end_count (counts_in bs)) (length (joint_ends_in bs)) (ends-second_long bs v),
              eq-eqb (length (live_in bs)) (length (counts_in bs)) (omega (arith, lc, live_in_long bs)),
              file-known bs e,
              file-counts bs e,
              le-leb (length (types_in bs)) (length t.parents) (omega (arith, types_long bs e, room.islands.parents)),
              le-leb (length (types_in bs)) (length t.sizes) (omega (arith, types_long bs e, room.islands.sizes)),
              le-leb (length (types_in bs)) (length t.body_islands) (omega (arith, types_long bs e, room.islands.body_islands)),
              le-leb (length (manifolds_in bs) / 2) (length t.manifold_islands) (omega (arith, lm, room.islands.manifold_islands)),
              le-leb (length (counts_in bs)) (length t.joint_islands) (omega (arith, lc, room.islands.joint_islands)),
            )

        refusal_is : standing_refusal l rooms ≡ sound_refusal bs
        refusal_is = by_cases (eqb (length l.joint_counts.now) 0)
            (λ z. rw z (pairs_refusal (eqb-true (length l.joint_counts.now) 0 z)))
            (λ z. rw z (counts-refusal (eqb-false (length l.joint_counts.now) 0 z)))

        -- ---- after the islands' call, whose answer is r

        module _ (u : IslandTables) (r : Result ℕ Refusal) (h : Built (frame_in l) (standing_refusal l rooms) t u (refused_by r) (answer_islands r)) where
          pub built : Built f (sound_refusal bs) t u (refused_by r) (answer_islands r)
          built = rw (frame_is, refusal_is) at h

          accepted-sound : refused_by r ≡ 0 → all_sound f ≡ true
          unfolding sound_refusal
          accepted-sound z = by_cases (all_sound f) (λ ok. ok) (λ ok. absurd (let y : 7 ≡ 0 = sym (rw ok at built.refusal) ∙ z in omega arith))

          refused-unsound : (refused_by r ≡ 0 → ⊥) → all_sound f ≡ false
          unfolding sound_refusal
          refused-unsound n = by_cases (all_sound f) (λ ok. absurd (n (rw ok at built.refusal))) (λ ok. ok)

          pub countable : Countable r l ds
          countable = record {
            joints = rw (joints-counted, rest) (ends_enough bs);
            counts = omega (arith, ap length types-are, types_long bs e, room.on_bodies);
            sound = λ z. rw frame_is (accepted-sound z);
            few = subst (λ (g : Frame). length (constraints g) ≤ 8192) (sym frame_is) few_constraints;
          }

          pub degree_is : (c : ℕ) → c ≡ cond (eqb (refused_by r) 0) (degree_max (frame_in l)) 0 → c ≡ cond (all_sound f) (degree_max f) 0
          unfolding sound_refusal
          degree_is c ec = ec ∙ by_cases (all_sound f)
              (λ ok. rw (frame_is, rw ok at built.refusal, ok))
              (λ ok. rw (rw ok at built.refusal, ok))

          -- ---- the numbers

          module _ (j i : ℕ) (ej : j ≡ length es) (ei : i ≡ answer_islands r) where
            joints_are : j ≡ count_j bs
            joints_are = ej ∙ ap length d.enabled ∙ live_in_long bs

            fronts : take m u.manifold_islands ++ take j u.joint_islands ≡ labels_in bs u.manifold_islands u.joint_islands
            fronts = rw (em, joints_are)

            pub sort_ready : length u.manifold_islands ≡ length t.manifold_islands → length u.joint_islands ≡ length t.joint_islands
                → ((m ≤ length u.manifold_islands) × (j ≤ length u.joint_islands) × (m + j ≤ length ks)) × (Labels i (take m u.manifold_islands ++ take j u.joint_islands) × Sortable (m + j) (take (m + j) ks) ss os ns)
            sort_ready lm lj = (
              (omega (arith, lm, em, room.islands.manifold_islands), omega (arith, lj, joints_are, room.islands.joint_islands), omega (arith, em, joints_are, room.keys)),
              (
                rw (fronts, ei) (labels_sortable t u (refused_by r) (answer_islands r) built),
                record {
                  keys = length-take-le (m + j) ks (omega (arith, em, joints_are, room.keys));
                  scratch = omega (arith, em, joints_are, room.scratch);
                  offsets = omega (arith, em, joints_are, room.offsets);
                  numbers = omega (arith, em, joints_are, room.numbers);
                },
              ),
            )

            module _ (ns' : List ℕ) (en : ns' ≡ by_island i (take m u.manifold_islands ++ take j u.joint_islands)) where
              sorted : ns' ≡ by_island (answer_islands r) (labels_in bs u.manifold_islands u.joint_islands)
              sorted = en ∙ rw (fronts, ei)

              -- ---- and the answer

              pub filled : (n c : ℕ) → r ≡ Ok n → c ≡ cond (eqb (refused_by r) 0) (degree_max (frame_in l)) 0 → Fills bs ts fs ps cs es t u ns' (Ok (record { islands = n; degree = c }))
              filled n c er ec = record {
                decoded = d;
                islands = rw er at built;
                degree = rw (accepted-sound (ap refused_by er)) (rw er at ec ∙ ap degree_max frame_is);
                numbers = rw er at sorted;
              }

              pub unfilled : (k : Refusal) → r ≡ Err k → Fills bs ts fs ps cs es t u ns' (Err k)
              unfilled k er = record {
                decoded = d;
                islands = rw er at built;
                degree = rw (refused-unsound (λ z. numbered k (sym (ap refused_by er) ∙ z)));
                numbers = rw er at sorted;
              }
