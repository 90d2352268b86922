-- The entries. Where questions 3 to 6 get a "yes" the tables are long enough, and the frame is built on their first places; so what stands there, with the rest of each table behind it,
-- is what the contract says. Where one gets a "no" nothing is written.
use Rattle.std.proofs.Common.{ℕ, ◌+◌, ◌≤◌, ◌/◌, arith, ◌≡◌, refl, sym, ap, ◌∙◌, subst, Bool, true, false, ◌&&◌, cond, List, [], ◌∷◌, ◌++◌, map, Result, leb, eqb, length, take, drop, replicate, length-take-le, take_at, drop_at, leb-true, eqb-true, ne_eqb}
use Rattle.std.proofs.Math.ListN.{length-map, length-replicate}
use Rattle.std.proofs.lemmas.Bool.{eqb-false}
use Rattle.lists.specs.Basics.{over}
use Rattle.lists.proofs.Laws.{and_left, and_right, length-range}
use Rattle.frame.proofs.Answered.{numbered}
use Rattle.frame.specs.declared.refusal.Refusal.{Refusal}
use Rattle.frame.specs.Refusals.{number_of, refused_by}
use Rattle.frame.specs.Frames.{Frame, frame_of, frame_with, constraints_of, joints_of, counts_known, end_count, bodies, all_sound, none}
use Rattle.frame.specs.Questions.{asked, few_each, even, pair_count, types_known, bits}
use Rattle.frame.proofs.Questions.{few-each}
use Rattle.frame.proofs.Counted.{counted-length, joints-counted}
use Rattle.connected_sets.specs.Islands.{island_count, body_label, label}
use Rattle.island.specs.Answers.{answer_islands}
use Rattle.island.specs.Calls.{IslandTables, island_tables_of, rooms_of, roomy, early_questions, island_refusal, multi_early_questions, multi_island_refusal, SetsAfter, labels_after, Built}
use Rattle.island.specs.Steps.{Sized, BuiltSized, Room, BuiltFront}
use Rattle.island.proofs.Refusals.{early, refused, AllYes, all_yes, early_below, refused-early, refused_late}

-- ---- how many constraints there are
pairs_bounds : (l es : List ℕ) → (length (constraints_of l es) + length (constraints_of l es) ≤ length l) × (length l ≤ length (constraints_of l es) + length (constraints_of l es) + 1)
pairs_bounds [] es = omega arith
pairs_bounds (a ∷ []) es = omega arith
pairs_bounds (a ∷ b ∷ r) [] = let h = pairs_bounds r [] in omega (arith, h.0, h.1)
pairs_bounds (a ∷ b ∷ r) (e ∷ es) = let h = pairs_bounds r es in omega (arith, h.0, h.1)

pairs_length : (l es : List ℕ) → length (constraints_of l es) ≡ length l / 2
pairs_length l es = let h = pairs_bounds l es in omega (arith, h.0, h.1)

joints-length : (cs bs es : List ℕ) → end_count cs ≡ length bs → length (joints_of cs bs es) ≡ length cs
joints-length cs bs es e = ap length (joints-counted cs bs es e) ∙ counted-length cs bs es

abbrev seven : Bool → ℕ
seven ok = cond ok 0 7

-- ---- a frame of nm manifolds and nj joints
module _ (f : Frame) (nm nj : ℕ) (t : IslandTables) where
  -- the tables are long enough
  room : length f.types ≤ 4096 → length f.manifolds ≡ nm → length f.joints ≡ nj → roomy (length f.types) nm nj (rooms_of t) ≡ true → Room f nm nj t
  room few em ej all_fit =
      let ps_fit = leb (length f.types) (length t.parents) in
      let ss_fit = leb (length f.types) (length t.sizes) in
      let bs_fit = leb (length f.types) (length t.body_islands) in
      let ms_fit = leb nm (length t.manifold_islands) in
      let js_fit = leb nj (length t.joint_islands) in
      let four = and_left (ps_fit && ss_fit && bs_fit && ms_fit) js_fit all_fit in
      let three = and_left (ps_fit && ss_fit && bs_fit) ms_fit four in
      let two = and_left (ps_fit && ss_fit) bs_fit three in
      record {
        few = few;
        manifold_count = em;
        joint_count = ej;
        parents = leb-true _ _ (and_left ps_fit ss_fit two);
        sizes = leb-true _ _ (and_right ps_fit ss_fit two);
        bodies = leb-true _ _ (and_right (ps_fit && ss_fit) bs_fit three);
        manifolds = leb-true _ _ (and_right (ps_fit && ss_fit && bs_fit) ms_fit four);
        joints = leb-true _ _ (and_right (ps_fit && ss_fit && bs_fit && ms_fit) js_fit all_fit);
      }

  -- ---- refused before question 7
  kept_as : (k : ℕ) → (k ≡ 0 → ⊥) → (k ≡ 7 → ⊥) → Built f k t t k 0
  unfolding labels_after
  kept_as k n n7 = record {
    refusal = refl;
    count = rw (ne_eqb k 0 n);
    body_labels = same (map (body_label f) (bodies f)) t.body_islands;
    manifold_labels = same (map (label f) f.manifolds) t.manifold_islands;
    joint_labels = same (map (label f) f.joints) t.joint_islands;
    parents = untouched (bodies f) t.parents;
    sizes = untouched (replicate (length f.types) 1) t.sizes;
    sets = λ z. absurd (n z);
  }
    where
      same : (labels old : List ℕ) → old ≡ labels_after k labels old
      same labels old = rw (ne_eqb k 0 n, ne_eqb k 7 n7)

      untouched : (alone old : List ℕ) → SetsAfter k alone old old
      untouched alone old = record { beyond = refl; reset = λ z. absurd (n7 z); kept = λ u v. refl }

  kept_built : (q3 q4 q5 q6 : Bool) (r : Refusal) → number_of r ≡ early q3 q4 q5 q6 (all_sound f) → Built f (refused q3 q4 q5 q6 (all_sound f)) t t (number_of r) 0
  kept_built q3 q4 q5 q6 r e =
      subst (λ (q : ℕ). Built f q t t (number_of r) 0) (refused-early q3 q4 q5 q6 (all_sound f) (number_of r) e (numbered r)) (kept_as (number_of r) (numbered r) (λ z. early_below q3 q4 q5 q6 (all_sound f) (sym e ∙ z)))

  -- ---- built on the first places
  abbrev pub left : List ℕ → List ℕ → List ℕ → List ℕ → List ℕ → IslandTables
  left p s b m j = island_tables_of (p ++ drop (length f.types) t.parents) (s ++ drop (length f.types) t.sizes) (b ++ drop (length f.types) t.body_islands) (m ++ drop nm t.manifold_islands) (j ++ drop nj t.joint_islands)

  module _ (w : Room f nm nj t) where
    pub sized : Sized f (take (length f.types) t.parents) (take (length f.types) t.body_islands) (take nm t.manifold_islands) (take nj t.joint_islands)
    sized = record {
      few = w.few;
      long_parents = length-take-le (length f.types) t.parents w.parents;
      long_bodies = length-take-le (length f.types) t.body_islands w.bodies;
      long_manifolds = length-take-le nm t.manifold_islands w.manifolds ∙ sym w.manifold_count;
      long_joints = length-take-le nj t.joint_islands w.joints ∙ sym w.joint_count;
    }

    module _ (p s b m j : List ℕ) (r : Result ℕ Refusal) (h : BuiltSized f p s b m j r) (lp : length p ≡ length f.types) (ls : length s ≡ length f.types) where
      labels-after : (ok : Bool) (labels old new : List ℕ) (size : ℕ) → length labels ≡ size → (ok ≡ true → new ≡ labels) → (ok ≡ false → new ≡ replicate size none) → new ++ drop size old ≡ labels_after (seven ok) labels old
      unfolding labels_after
      labels-after true labels old new size e y x = ap (λ (l : List ℕ). l ++ drop size old) (y refl) ∙ ap (λ (n : ℕ). labels ++ drop n old) (sym e)
      labels-after false labels old new size e y x = ap (λ (l : List ℕ). l ++ drop size old) (x refl) ∙ again
        where
          again : replicate size none ++ drop size old ≡ over (replicate (length labels) none) old
          again = rw e (ap (λ (n : ℕ). replicate size none ++ drop n old) (sym (length-replicate size none)))

      counted : (ok : Bool) → (ok ≡ true → answer_islands r ≡ island_count f) → (ok ≡ false → answer_islands r ≡ 0) → answer_islands r ≡ cond (eqb (seven ok) 0) (island_count f) 0
      counted true y x = y refl
      counted false y x = x refl

      zero-or-seven : (ok : Bool) → (seven ok ≡ 0 → ok ≡ true) × (seven ok ≡ 7 → ok ≡ false) × ((seven ok ≡ 0 → ⊥) → (seven ok ≡ 7 → ⊥) → ⊥)
      zero-or-seven true = ((λ z. refl), (λ z. absurd (eqb-false 0 7 refl z)), (λ u v. u refl))
      zero-or-seven false = ((λ z. absurd (eqb-false 7 0 refl z)), (λ z. refl), (λ u v. v refl))

      -- one of the two tables of the sets
      sets-after : (alone old new : List ℕ) → length alone ≡ length f.types → length new ≡ length f.types → (all_sound f ≡ false → new ≡ alone) → SetsAfter (seven (all_sound f)) alone old (new ++ drop (length f.types) old)
      sets-after alone old new ea en x = record {
        beyond = ap (λ (n : ℕ). drop n (new ++ drop (length f.types) old)) ea ∙ drop_at new (drop (length f.types) old) (length f.types) en ∙ ap (λ (n : ℕ). drop n old) (sym ea);
        reset = λ z. ap (λ (q : List ℕ). q ++ drop (length f.types) old) (x ((zero-or-seven (all_sound f)).1 z)) ∙ ap (λ (n : ℕ). alone ++ drop n old) (sym ea);
        kept = λ u v. absurd ((zero-or-seven (all_sound f)).2 u v);
      }

      pub built_front : BuiltFront f t (left p s b m j) r
      built_front = record {
        refusal = h.refusal;
        count = counted ok (λ y. (h.accepted y).1.count) (λ x. (h.blank x).count);
        body_labels = labels-after ok (map (body_label f) (bodies f)) t.body_islands b (length f.types) (length-map (bodies f) (body_label f) ∙ length-range 0 (length f.types)) (λ y. (h.accepted y).1.body_labels) (λ x. (h.blank x).body_labels);
        manifold_labels = labels-after ok (map (label f) f.manifolds) t.manifold_islands m nm (length-map f.manifolds (label f) ∙ w.manifold_count) (λ y. (h.accepted y).1.manifold_labels) (λ x. (h.blank x).manifold_labels ∙ ap (λ (n : ℕ). replicate n none) w.manifold_count);
        joint_labels = labels-after ok (map (label f) f.joints) t.joint_islands j nj (length-map f.joints (label f) ∙ w.joint_count) (λ y. (h.accepted y).1.joint_labels) (λ x. (h.blank x).joint_labels ∙ ap (λ (n : ℕ). replicate n none) w.joint_count);
        parents = sets-after (bodies f) t.parents p (length-range 0 (length f.types)) lp (λ x. (h.blank x).parents);
        sizes = sets-after (replicate (length f.types) 1) t.sizes s (length-replicate {A = ℕ} (length f.types) 1) ls (λ x. (h.blank x).sizes);
        sets = λ z. rw (take_at p (drop (length f.types) t.parents) (length f.types) lp, take_at s (drop (length f.types) t.sizes) (length f.types) ls) (h.accepted ((zero-or-seven ok).0 z)).0;
      }
        where
          ok : Bool
          ok = all_sound f

-- ---- joints that are pairs
module _ (ts ps js es : List ℕ) (t : IslandTables) where
  abbrev pairs_frame : Frame
  pairs_frame = frame_of ts ps js es

  abbrev pairs_early : ℕ
  pairs_early = asked (early_questions ts ps js es (rooms_of t))

  abbrev pairs_few : Bool
  pairs_few = few_each (length ts) (pair_count ps) (pair_count js)

  abbrev pairs_agree : Bool
  pairs_agree = even ps && even js && eqb (length es) (pair_count js)

  abbrev pairs_known : Bool
  pairs_known = types_known ts && bits es

  abbrev pairs_roomy : Bool
  pairs_roomy = roomy (length ts) (pair_count ps) (pair_count js) (rooms_of t)

  pub pairs_room : pairs_early ≡ 0 → Room pairs_frame (pair_count ps) (pair_count js) t
  pairs_room e =
      let y = all_yes pairs_few pairs_agree pairs_known pairs_roomy (all_sound pairs_frame) e in
      room pairs_frame (pair_count ps) (pair_count js) t (few-each (length ts) (pair_count ps) (pair_count js) y.three).0 (pairs_length ps []) (pairs_length js es) y.six

  pub pairs_kept : (r : Refusal) → number_of r ≡ pairs_early → Built pairs_frame (island_refusal ts ps js es (rooms_of t)) t t (number_of r) 0
  unfolding island_refusal
  pairs_kept r e = kept_built pairs_frame (pair_count ps) (pair_count js) t pairs_few pairs_agree pairs_known pairs_roomy r e

  pub pairs_built : pairs_early ≡ 0 → (u : IslandTables) (r : Result ℕ Refusal) → BuiltFront pairs_frame t u r → Built pairs_frame (island_refusal ts ps js es (rooms_of t)) t u (refused_by r) (answer_islands r)
  unfolding island_refusal
  pairs_built e u r h = rw (refused_late pairs_few pairs_agree pairs_known pairs_roomy (all_sound pairs_frame) e) at h

-- ---- joints that have a count each
module _ (ts ps bs cs es : List ℕ) (t : IslandTables) where
  abbrev counted_frame : Frame
  counted_frame = frame_with ts ps bs cs es

  abbrev counted_early : ℕ
  counted_early = asked (multi_early_questions ts ps bs cs es (rooms_of t))

  abbrev counted_few : Bool
  counted_few = few_each (length ts) (pair_count ps) (length cs)

  abbrev counts_agree : Bool
  counts_agree = even ps && eqb (end_count cs) (length bs) && eqb (length es) (length cs)

  abbrev counted_known : Bool
  counted_known = types_known ts && bits es && counts_known cs

  abbrev counted_roomy : Bool
  counted_roomy = roomy (length ts) (pair_count ps) (length cs) (rooms_of t)

  counted_yes : counted_early ≡ 0 → AllYes counted_few counts_agree counted_known counted_roomy (all_sound counted_frame)
  counted_yes e = all_yes counted_few counts_agree counted_known counted_roomy (all_sound counted_frame) e

  pub counted_ends : counted_early ≡ 0 → end_count cs ≡ length bs
  counted_ends e = eqb-true (end_count cs) (length bs) (and_right (even ps) (eqb (end_count cs) (length bs)) (and_left (even ps && eqb (end_count cs) (length bs)) (eqb (length es) (length cs)) (counted_yes e).four))

  pub counted_room : counted_early ≡ 0 → Room counted_frame (pair_count ps) (length cs) t
  counted_room e =
      let y = counted_yes e in
      room counted_frame (pair_count ps) (length cs) t (few-each (length ts) (pair_count ps) (length cs) y.three).0 (pairs_length ps []) (joints-length cs bs es (counted_ends e)) y.six

  pub counted_kept : (r : Refusal) → number_of r ≡ counted_early → Built counted_frame (multi_island_refusal ts ps bs cs es (rooms_of t)) t t (number_of r) 0
  unfolding multi_island_refusal
  counted_kept r e = kept_built counted_frame (pair_count ps) (length cs) t counted_few counts_agree counted_known counted_roomy r e

  pub counted_built : counted_early ≡ 0 → (u : IslandTables) (r : Result ℕ Refusal) → BuiltFront counted_frame t u r → Built counted_frame (multi_island_refusal ts ps bs cs es (rooms_of t)) t u (refused_by r) (answer_islands r)
  unfolding multi_island_refusal
  counted_built e u r h = rw (refused_late counted_few counts_agree counted_known counted_roomy (all_sound counted_frame) e) at h
