-- A generated file passes the questions and holds the drawn frame. Its parts have the lengths that a file must have, its types and enabled bytes
-- are draws modulo 3 and 2, and its pairs are sound: body b lies 1 to B - 1 places behind body a, counted round the B bodies, so it is never a.
-- With fewer than two bodies there are no pairs. What is known of a written file then gives both.
use Rattle.std.proofs.Common.{◌≡◌, ℕ, zero, suc, ◌+◌, ◌-◌, ◌*◌, ◌%◌, ◌<◌, ◌≤◌, Bool, true, eqb, ltb, leb, List, [], ◌∷◌, map, length, take, drop, sym, refl, ◌∙◌, mod-lt, mod-eq_of_lt, arith, take_at, ltb-false, ltb-true, lt-ltb, ne_eqb, le-leb}
use Rattle.std.proofs.Math.Nat.{mod-eq-sub-mod}
use Rattle.lists.specs.Basics.{all, join_map, range}
use Rattle.lists.proofs.Laws.{and_both, by_cases, all_append}
use Rattle.frame.specs.Frames.{constraint, constraints_of, frame_of, sound, all_sound}
use Rattle.frame.specs.Questions.{few_each, types_known, bits}
use Rattle.frame.proofs.Pairs.{sound_live, sound_dead}
use Rattle.frame_file.specs.Written.{file_length, Writable}
use Rattle.frame_file.proofs.Decoded.{file_long, written_decoded, written-passes}
use Rattle.generator.specs.Draws.{next_state, state_after, draw, pair_drawn, types_drawn, pairs_drawn, enabled_drawn, generated_bytes}
use Rattle.generator.specs.Calls.{pairs_possible, generate_refusal, Made}
use Rattle.generator.specs.Lifts.{Lift}
use Rattle.generator.proofs.Calls.{two-bodies, all_yes}
use Rattle.generator.proofs.Whole.{types, manifolds, joints, enabled, count_b_lem, count_m_lem, count_j_lem, writable}

-- ---- types and enabled bytes

all-at_most : (top : ℕ) (g : ℕ → ℕ) (is : List ℕ) → ((i : ℕ) → g i ≤ top) → all (λ t. leb t top) (map g is) ≡ true
all-at_most top g [] h = refl
all-at_most top g (i ∷ is) h = and_both (leb (g i) top) (all (λ t. leb t top) (map g is)) (le-leb (g i) top (h i)) (all-at_most top g is h)

types_are_known : (n s : ℕ) → types_known (types_drawn n s) ≡ true
unfolding types_drawn
types_are_known n s = all-at_most _ (λ i. draw i s % 3) (range n) (λ i. omega arith)

enabled-bits : (k n s : ℕ) → bits (enabled_drawn k n s) ≡ true
unfolding enabled_drawn
enabled-bits k n s = all-at_most _ (λ i. draw (k + 3 * i + 2) s % 2) (range n) (λ i. omega arith)

-- ---- one pair

-- 1 to b - 1 places on from a, round b places, is not a
round_other : (b a r : ℕ) → a < b → r + 1 < b → a ≡ (a + 1 + r) % b → ⊥
round_other b a r h k e = by_cases (ltb (a + 1 + r) b)
    (λ t. let straight : (a + 1 + r) % b ≡ a + 1 + r = mod-eq_of_lt (ltb-true (a + 1 + r) b t) in omega arith)
    (λ t. let past : b ≤ a + 1 + r = ltb-false (a + 1 + r) b t in
    let round : (a + 1 + r) % b ≡ a + 1 + r - b = mod-eq-sub-mod past ∙ mod-eq_of_lt (omega arith) in
    omega arith)

-- two different bodies are sound, live or not
two-sound : (n : ℕ) (live : Bool) (a b : ℕ) → a < n → b < n → (a ≡ b → ⊥) → sound n (constraint live a b) ≡ true
two-sound n live a b h k d = by_cases live
    (λ e. sym (sound_live n live a b e) ∙ rw (lt-ltb a n h, lt-ltb b n k, ne_eqb a b d))
    (λ e. sym (sound_dead n live a b e))

-- so is the pair that draws x and y give
drawn_sound : (b x y : ℕ) (live : Bool) → 2 ≤ b → sound b (constraint live (x % b) ((x % b + 1 + y % (b - 1)) % b)) ≡ true
drawn_sound b x y live h =
    let a = x % b in
    let r = y % (b - 1) in
    let a_in : a < b = mod-lt x (omega arith) in
    let r_in : r < b - 1 = mod-lt y (omega arith) in
    two-sound b live a ((a + 1 + r) % b) a_in (mod-lt (a + 1 + r) (omega arith)) (round_other b a r a_in (omega (arith, r_in)))

-- ---- all pairs, with any enabled bytes

joined_sound : (b k d s : ℕ) (is es : List ℕ) → 2 ≤ b → all (sound b) (constraints_of (join_map (λ i. pair_drawn b (k + d * i) s) is) es) ≡ true
unfolding pair_drawn
joined_sound b k d s [] es h = refl
joined_sound b k d s (i ∷ is) [] h = and_both _ _ (drawn_sound b (draw (k + d * i) s) (draw (suc (k + d * i)) s) true h) (joined_sound b k d s is [] h)
joined_sound b k d s (i ∷ is) (e ∷ es) h = and_both _ _ (drawn_sound b (draw (k + d * i) s) (draw (suc (k + d * i)) s) (eqb e 1) h) (joined_sound b k d s is es h)

-- two bodies are needed only where there is a pair
pairs_sound : (b k d n s : ℕ) (es : List ℕ) → (1 ≤ n → 2 ≤ b) → all (sound b) (constraints_of (pairs_drawn b k d n s) es) ≡ true
unfolding pairs_drawn
pairs_sound b k d zero s es h = refl
pairs_sound b k d (suc n) s es h = joined_sound b k d s (range (suc n)) es (h (omega arith))

-- ---- the file of a seed

module _ (seed b m j : ℕ) (few : few_each b m j ≡ true) (two : pairs_possible b m j ≡ true) where
  parts : Writable (types seed b m j) (manifolds seed b m j) (joints seed b m j) (enabled seed b m j)
  parts = writable seed b m j few

  frame_sound : all_sound (frame_of (types seed b m j) (manifolds seed b m j) (joints seed b m j) (enabled seed b m j)) ≡ true
  unfolding all_sound
  frame_sound =
      rw (count_b_lem seed b m j)
      (all_append (sound b) (constraints_of (manifolds seed b m j) []) (constraints_of (joints seed b m j) (enabled seed b m j))
      ∙ and_both (all (sound b) (constraints_of (manifolds seed b m j) [])) (all (sound b) (constraints_of (joints seed b m j) (enabled seed b m j)))
      (pairs_sound b b 2 m seed [] (λ h. two-bodies b m j two (omega (arith, h))))
      (pairs_sound b (b + 2 * m) 3 j seed (enabled seed b m j) (λ h. two-bodies b m j two (omega (arith, h)))))

  pub generated_long : length (generated_bytes seed b m j) ≡ file_length b m j
  unfolding generated_bytes
  generated_long = file_long _ _ _ _ parts ∙ rw (count_b_lem seed b m j, count_m_lem seed b m j, count_j_lem seed b m j)

  lift_holds : Lift seed b m j (generated_bytes seed b m j)
  unfolding generated_bytes
  lift_holds = record {
    passes = written-passes _ _ _ _ parts (types_are_known b seed) (enabled-bits (b + 2 * m) j seed) frame_sound;
    frame = written_decoded _ _ _ _ parts;
  }

-- ---- a call that refused nothing

-- what it left in its first `long` bytes is the file
pub lift_made : (seed b m j : ℕ) (old new : List ℕ) (number long : ℕ) → Made seed b m j old new number long → number ≡ 0 → Lift seed b m j (take long new)
lift_made seed b m j old new number long made e =
    let file = generated_bytes seed b m j in
    let none : generate_refusal b m j (length old) ≡ 0 = sym made.refusal ∙ e in
    let ok = all_yes b m j (length old) none in
    let there : take long new ≡ file = rw (made.as_long, made.bytes, none) (take_at file (drop (length file) old) (file_length b m j) (generated_long seed b m j ok.0 ok.1)) in
    rw there (lift_holds seed b m j ok.0 ok.1)

-- ---- the first states from seed 0

pub states_from_0 : (state_after 1 0 ≡ 1013904223) × (state_after 2 0 ≡ 1196435762) × (state_after 3 0 ≡ 3519870697)
unfolding state_after next_state
states_from_0 = (refl, refl, refl)
