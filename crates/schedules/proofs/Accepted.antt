-- What acceptance says of a file's frame: few bodies and constraints, known types, and live constraints with different endpoints inside, two
-- to four, and just two on version 1.
use Rattle.std.proofs.Common.{ℕ, ◌≤◌, ◌<◌, ◌≡◌, refl, ap, ◌∙◌, Bool, true, false, cond, List, [], ◌∷◌, arith, leb, ltb, eqb, length, get_or, drop, length-take, le-leb, ltb-true, ltb-false}
use Rattle.std.proofs.Math.ListN.{get_or-map, get_or-eq_default}
use Rattle.lists.specs.Basics.{any}
use Rattle.lists.proofs.Laws.{and_left, and_both, or_left, clashes, by_cases, all-get_or}
use Rattle.lists.proofs.Bits.{one-true}
use Rattle.frame.specs.Frames.{Constraint, Frame, constraints, constraint_at, nothing, connects, logged, conflicts, dynamic, conflicting, touches, fits, counted as two_to_four, sound, all_sound, flag_of}
use Rattle.frame.specs.Questions.{question, types_known}
use Rattle.frame.specs.Files.{count_b, second, decode, file_questions, frame_refusal}
use Rattle.frame.proofs.Questions.{passed, asked-both}
use Rattle.frame.proofs.Pairs.{live_number}
use Rattle.frame.proofs.Counted.{Fitting, fits-parts}
use Rattle.frame.proofs.Files.{file_sized, file-types, constraint-count, two-ends as file_two}
use Rattle.groups.specs.Groups.{flagged}
use Rattle.schedules.specs.Runs.{flags}

-- what the questions that a frame passed tell; if its constraints have no counts, they are pairs
pub record Accepted (counted : Bool) (f : Frame) : Type 0 where
  pub few_bodies : length f.types ≤ 4096
  pub types_are_known : types_known f.types ≡ true
  pub few_constraints : length (constraints f) ≤ 8192
  pub each_sound : all_sound f ≡ true
  pub pairs : counted ≡ false → (n : ℕ) → n < length (constraints f) → length (constraint_at f n).ends ≡ 2

pub accepted : (bs : List ℕ) → frame_refusal bs ≡ 0 → Accepted (second bs) (decode bs)
unfolding frame_refusal decode
accepted bs e =
    let a = asked-both (file_questions bs) (question 7 (all_sound (decode bs)) ∷ []) refl e in
    let s = file_sized bs a.0 in
    record {
      few_bodies = omega (arith, length-take (count_b bs) (drop 11 bs), s.bodies);
      types_are_known = file-types bs a.0;
      few_constraints = omega (arith, constraint-count bs, s.manifolds, s.joints);
      each_sound = (passed (all_sound (decode bs)) 0 6 a.1).0;
      pairs = λ v n h. file_two bs n v (omega (arith, constraint-count bs));
    }

-- a flag of a body says whether it makes conflicts
pub flag_conflicts : (f : Frame) (b : ℕ) → flagged (flags f) b ≡ conflicting f b
unfolding flags
flag_conflicts f b = ap (λ (v : ℕ). eqb v 1) (get_or-map flag_of f.types b 0) ∙ one-true (conflicts (get_or f.types b 0))

-- only bodies of the frame do, and the dynamic ones among them
pub conflicting_below : (f : Frame) (b : ℕ) → conflicting f b ≡ true → b < length f.types
conflicting_below f b e = by_cases (ltb b (length f.types)) (ltb-true b (length f.types))
    (λ l. clashes (conflicting f b) e (ap conflicts (get_or-eq_default f.types 0 (ltb-false b (length f.types) l))))

pub dynamic-conflicts : (f : Frame) (b : ℕ) → dynamic f b ≡ true → conflicting f b ≡ true
unfolding dynamic
dynamic-conflicts f b e = or_left (connects (get_or f.types b 0)) (logged (get_or f.types b 0)) e

-- what touches a dynamic body is live
pub touch_is_live : (f : Frame) (c : Constraint) → touches f c ≡ true → c.live ≡ true
unfolding touches
touch_is_live f c t = and_left c.live (any (dynamic f) c.ends) t

module _ {counted : Bool} (f : Frame) (ok : Accepted counted f) (n : ℕ) (e : (constraint_at f n).live ≡ true) where
  pub fitting : fits (length f.types) (constraint_at f n).ends ≡ true
  unfolding constraint_at sound all_sound
  fitting = rw e at (all-get_or (sound (length f.types)) nothing (constraints f) n refl ok.each_sound)

  -- a live constraint's endpoints: two to four, different, of the frame
  pub live : Fitting (length f.types) (constraint_at f n).ends
  live = fits-parts (length f.types) (constraint_at f n).ends fitting

  pub sized : two_to_four (length (constraint_at f n).ends) ≡ true
  sized = let k = length (constraint_at f n).ends in and_both (leb 2 k) (leb k 4) (le-leb 2 k live.least) (le-leb k 4 live.most)

  pub two-ends : counted ≡ false → length (constraint_at f n).ends ≡ 2
  two-ends v = ok.pairs v n (live_number f n e)

  -- so not more than its version has
  pub ends-few : length (constraint_at f n).ends ≤ cond counted 4 2
  ends-few = by_cases counted (λ v. rw v live.most) (λ v. rw v (omega (arith, two-ends v)))
