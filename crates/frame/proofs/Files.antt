-- What the answer of questions 1 to 5 says of a file, by its version, and what constraints its frame has.
use Rattle.std.proofs.Common.{ℕ, zero, suc, ◌+◌, ◌-◌, ◌*◌, ◌/◌, ◌≤◌, ◌<◌, ◌≡◌, refl, sym, ap, ◌∙◌, Bool, true, false, not, ◌&&◌, ◌||◌, cond, List, [], ◌∷◌, ◌++◌, map, arith, mul-suc, leb, ltb, eqb, length, get_or, drop, replicate, length-append, length-drop, length-take-le, get_or-append-add, leb-true, eqb-true, eq-eqb, ne_eqb, ltb-true, ltb-false}
use Rattle.std.proofs.Math.ListN.{length-map, length-replicate, get_or-append}
use Rattle.std.proofs.lemmas.Bool.{eqb-false}
use Rattle.lists.proofs.Laws.{and_left, and_right, by_cases, get_or-map-lt}
use Rattle.frame.specs.Frames.{Constraint, Frame, nothing, constraints, constraint_at, constraints_of, counted_of, frame_of, counts_known, end_count}
use Rattle.frame.specs.Questions.{asked, few_each, types_known, bits}
use Rattle.frame.specs.Files.{byte, half, word, count_b, count_m, count_j, pairs_at, joints_at, ends_at, pairs_from, enabled_from, types_in, manifolds_in, joints_in, enabled_in, second, places_from, live_from, counts_in, joint_ends_in, live_in, walk_refusal, decode, head_questions, joint_questions, file_questions}
use Rattle.frame.specs.Decodes.{all_counts}
use Rattle.frame.specs.declared.Version.{Version}
use Rattle.frame.specs.declared.Version.TheVariants.{First, Second}
use Rattle.frame.specs.Answers.{version_of, with_counts}
use Rattle.frame.specs.Joints.{joints_refusal}
use Rattle.frame.proofs.Questions.{passed, asked-append, zero-cond, few-each}
use Rattle.frame.proofs.Decoding.{enabled-part}
use Rattle.frame.proofs.Counted.{joints-counted, known-many}
use Rattle.frame.proofs.Walks.{Whole, walk_cases, walk_begun, walk_short, walk_counts, place_whole, places_long, counts_long, live_long, ends_long, ends_in, entry_in, entries-joints}

-- ---- the questions

-- what questions 1 to 3 say
pub record Headed (bs : List ℕ) : Type 0 where
  pub version : (eqb (byte bs 0) 1 || second bs) ≡ true
  pub eleven : 11 ≤ length bs
  pub rest : word bs 1 ≡ length bs - 5
  pub bodies : count_b bs ≤ 4096
  pub manifolds : count_m bs ≤ 4096
  pub joints : count_j bs ≤ 4096

pub headed : (bs : List ℕ) → asked (head_questions bs) ≡ 0 → Headed bs
headed bs e =
    let some = ltb 0 (length bs) in
    let version = eqb (byte bs 0) 1 || second bs in
    let long = leb 11 (length bs) in
    let right = eqb (word bs 1) (length bs - 5) in
    let q1 = passed (some && version) _ 0 e in
    let q2 = passed (long && right) _ 1 q1.1 in
    let q3 = passed (few_each (count_b bs) (count_m bs) (count_j bs)) 0 2 q2.1 in
    let few = few-each (count_b bs) (count_m bs) (count_j bs) q3.0 in
    record {
      version = and_right some version q1.0;
      eleven = leb-true 11 (length bs) (and_left long right q2.0);
      rest = eqb-true (word bs 1) (length bs - 5) (and_right long right q2.0);
      bodies = few.0;
      manifolds = few.1;
      joints = few.2;
    }

-- the questions behind these: the joints' refusal, then 5 of types and enabled bytes
abbrev pub known : List ℕ → Bool
known bs = types_known (types_in bs) && bits (live_in bs)

module _ (bs : List ℕ) where
  -- the walk's answer as two questions, 5 ahead of 4
  two : (rest : ℕ) → cond (not (eqb (walk_refusal bs) 5)) (cond (eqb (walk_refusal bs) 0) rest 4) 5 ≡ cond (eqb (walk_refusal bs) 0) rest (walk_refusal bs)
  two rest = walk_cases bs (λ n. cond (not (eqb n 5)) (cond (eqb n 0) rest 4) 5 ≡ cond (eqb n 0) rest n) refl refl refl (joints_at bs) (count_j bs)

  one-four : (b : Bool) (rest : ℕ) → cond b rest 4 ≡ cond (eqb (cond b 0 4) 0) rest (cond b 0 4)
  one-four true rest = refl
  one-four false rest = refl

  pub joints-asked : asked (joint_questions bs) ≡ cond (eqb (joints_refusal bs) 0) (cond (known bs) 0 5) (joints_refusal bs)
  joints-asked = by_cases (second bs)
      (λ v. rw v (two (cond (types_known (types_in bs) && bits (live_from bs (joints_at bs) (count_j bs))) 0 5)))
      (λ v. rw v (one-four (eqb (word bs 1) (6 + count_b bs + 4 * count_m bs + 5 * count_j bs)) (cond (types_known (types_in bs) && bits (enabled_in bs)) 0 5)))

  pub file-asked : asked (file_questions bs) ≡ cond (eqb (asked (head_questions bs)) 0) (cond (eqb (joints_refusal bs) 0) (cond (known bs) 0 5) (joints_refusal bs)) (asked (head_questions bs))
  file-asked = asked-append (head_questions bs) (joint_questions bs) refl ∙ ap (λ (n : ℕ). cond (eqb (asked (head_questions bs)) 0) n (asked (head_questions bs))) joints-asked

-- where the joints are not refused, those of version 1 fill the rest of the file
pub first_bytes : (bs : List ℕ) → asked (head_questions bs) ≡ 0 → second bs ≡ false → joints_refusal bs ≡ 0 → length bs ≡ 11 + count_b bs + 4 * count_m bs + 5 * count_j bs
first_bytes bs e v z =
    let h = headed bs e in
    let q = passed (eqb (word bs 1) (6 + count_b bs + 4 * count_m bs + 5 * count_j bs)) 0 3 (rw v at z) in
    omega (arith, h.rest, h.eleven, eqb-true _ _ q.0)

-- their refusal by that length
pub first_length : (bs : List ℕ) (n : ℕ) → asked (head_questions bs) ≡ 0 → second bs ≡ false → n ≡ joints_at bs + 5 * count_j bs → cond (eqb (length bs) n) 0 4 ≡ joints_refusal bs
first_length bs n e v i =
    let h = headed bs e in
    let rest = 6 + count_b bs + 4 * count_m bs + 5 * count_j bs in
    by_cases (eqb (length bs) n)
    (λ t. rw (v, t, eq-eqb (word bs 1) rest (omega (arith, h.rest, h.eleven, eqb-true (length bs) n t, i))))
    (λ t. rw (v, t, ne_eqb (word bs 1) rest (λ k. eqb-false (length bs) n t (omega (arith, h.rest, h.eleven, k, i)))))

-- so the enabled bytes of that rest are those of the file
pub live-first : (bs js : List ℕ) (from : ℕ) → asked (head_questions bs) ≡ 0 → second bs ≡ false → joints_refusal bs ≡ 0 → from ≡ joints_at bs → js ≡ drop from bs → enabled_from js 0 (length js / 5) ≡ live_in bs
live-first bs js from e v z i d =
    let n : length js / 5 ≡ count_j bs = omega (arith, ap length d ∙ length-drop from bs, first_bytes bs e v z, i) in
    let k : from + 0 ≡ joints_at bs = omega (arith, i) in
    ap (enabled_from js 0) n ∙ ap (λ (ys : List ℕ). enabled_from ys 0 (count_j bs)) d ∙ enabled-part bs from 0 (count_j bs) ∙ rw (v, k)

-- and those of either version start inside it
pub joints_inside : (bs : List ℕ) → asked (head_questions bs) ≡ 0 → joints_refusal bs ≡ 0 → joints_at bs ≤ length bs
joints_inside bs e z = by_cases (second bs)
    (λ v. walk_begun bs (joints_at bs) (count_j bs) (rw v at z))
    (λ v. omega (arith, first_bytes bs e v z))

-- ---- an accepted file: its sizes, with its types and manifolds inside it
pub record Sized (bs : List ℕ) : Type 0 where
  pub bodies : count_b bs ≤ 4096
  pub manifolds : count_m bs ≤ 4096
  pub joints : count_j bs ≤ 4096
  pub bytes : 11 + count_b bs + 4 * count_m bs ≤ length bs

module _ (bs : List ℕ) (e : asked (file_questions bs) ≡ 0) where
  head_parts : (asked (head_questions bs) ≡ 0) × (cond (eqb (joints_refusal bs) 0) (cond (known bs) 0 5) (joints_refusal bs) ≡ 0)
  head_parts = zero-cond (asked (head_questions bs)) _ (sym (file-asked bs) ∙ e)

  joint_parts : (joints_refusal bs ≡ 0) × (◌≡◌ {A = ℕ} (cond (known bs) 0 5) 0)
  joint_parts = zero-cond (joints_refusal bs) _ head_parts.1

  pub file_headed : Headed bs
  file_headed = headed bs head_parts.0

  pub file_sized : Sized bs
  file_sized =
      let h = file_headed in
      record { bodies = h.bodies; manifolds = h.manifolds; joints = h.joints; bytes = joints_inside bs head_parts.0 joint_parts.0 }

  pub file-known : (types_known (types_in bs) && bits (live_in bs)) ≡ true
  file-known = (passed (known bs) 0 4 joint_parts.1).0

  pub file-types : types_known (types_in bs) ≡ true
  file-types = and_left (types_known (types_in bs)) (bits (live_in bs)) file-known

  pub types_long : length (types_in bs) ≡ count_b bs
  types_long = let s = file_sized in length-take-le (count_b bs) (drop 11 bs) (omega (arith, length-drop 11 bs, s.bytes))

  -- of version 1: its first byte, its length
  pub file_version : second bs ≡ false → byte bs 0 ≡ 1
  file_version v = let h = file_headed in eqb-true (byte bs 0) 1 (go (eqb (byte bs 0) 1) (rw v at h.version))
    where
      go : (b : Bool) → (b || false) ≡ true → b ≡ true
      go true k = refl
      go false k = k

  pub file_bytes : second bs ≡ false → length bs ≡ 11 + count_b bs + 4 * count_m bs + 5 * count_j bs
  file_bytes v = first_bytes bs head_parts.0 v joint_parts.0

  -- of version 2: the walk passes
  pub file-walked : second bs ≡ true → walk_refusal bs ≡ 0
  file-walked v = rw v at joint_parts.0

  -- no accepted file is longer than the longest
  pub file_short : length bs ≤ 61451
  file_short =
      let s = file_sized in
      by_cases (second bs)
      (λ v. omega (arith, walk_short bs (joints_at bs) (count_j bs) (file-walked v), s.bodies, s.manifolds, s.joints))
      (λ v. omega (arith, file_bytes v, s.bodies, s.manifolds, s.joints))

  -- entry j lies inside the file, and has two to four endpoints
  pub file-entry : second bs ≡ true → (j : ℕ) → j < count_j bs → Whole bs (get_or (places_from bs (joints_at bs) (count_j bs)) j 0)
  file-entry v j h = place_whole bs (joints_at bs) (count_j bs) j (file-walked v) h

-- ---- how long the parts of a file are
pub pairs_long : (bs : List ℕ) (s step n : ℕ) → length (pairs_from bs s step n) ≡ 2 * n
unfolding pairs_from
pairs_long bs s step zero = refl
pairs_long bs s step (suc n) = omega (arith, pairs_long bs (s + step) step n)

pub enabled_long : (bs : List ℕ) (s n : ℕ) → length (enabled_from bs s n) ≡ n
unfolding enabled_from
enabled_long bs s zero = refl
enabled_long bs s (suc n) = ap suc (enabled_long bs (s + 5) n)

module _ (bs : List ℕ) where
  pub manifold_ends_long : length (manifolds_in bs) ≡ 2 * count_m bs
  manifold_ends_long = pairs_long bs (pairs_at bs) 4 (count_m bs)

  pub live_in_long : length (live_in bs) ≡ count_j bs
  live_in_long = by_cases (second bs)
      (λ v. rw v (live_long bs (joints_at bs) (count_j bs)))
      (λ v. rw v (enabled_long bs (joints_at bs) (count_j bs)))

  -- on version 1 there are no counts, and two endpoints a joint
  pub counts-first : second bs ≡ false → counts_in bs ≡ []
  counts-first v = rw v

  pub ends-first_long : second bs ≡ false → length (joint_ends_in bs) ≡ 2 * count_j bs
  ends-first_long v = rw v (pairs_long bs (joints_at bs) 5 (count_j bs))

  -- on version 2 as many as the counts say
  pub counts-second_long : second bs ≡ true → length (counts_in bs) ≡ count_j bs
  counts-second_long v = rw v (counts_long bs (joints_at bs) (count_j bs))

  pub ends-second_long : second bs ≡ true → end_count (counts_in bs) ≡ length (joint_ends_in bs)
  ends-second_long v = rw v (sym (ends_long bs (joints_at bs) (count_j bs)))

  -- the counts of all constraints
  pub all_counts-first : second bs ≡ false → all_counts bs ≡ []
  all_counts-first v = rw v

  pub all_counts-second : second bs ≡ true → all_counts bs ≡ replicate (count_m bs) 2 ++ counts_in bs
  all_counts-second v = rw v

  pub all_counts_long : second bs ≡ true → length (all_counts bs) ≡ count_m bs + count_j bs
  all_counts_long v = ap length (all_counts-second v) ∙ length-append (replicate (count_m bs) 2) (counts_in bs) ∙ omega (arith, length-replicate {A = ℕ} (count_m bs) 2, counts-second_long v)

-- of an accepted file the counts are known, and the joints have two to four endpoints each
module _ (bs : List ℕ) (e : asked (file_questions bs) ≡ 0) where
  pub file-counts : counts_known (counts_in bs) ≡ true
  file-counts = by_cases (second bs)
      (λ v. rw v (walk_counts bs (joints_at bs) (count_j bs) (file-walked bs e v)))
      (λ v. rw v refl)

  pub file-ends : (2 * count_j bs ≤ length (joint_ends_in bs)) × (length (joint_ends_in bs) ≤ 4 * count_j bs)
  file-ends = by_cases (second bs)
      (λ v. let k = known-many (counts_in bs) file-counts in (omega (arith, k.0, counts-second_long bs v, ends-second_long bs v), omega (arith, k.1, counts-second_long bs v, ends-second_long bs v)))
      (λ v. (omega (arith, ends-first_long bs v), omega (arith, ends-first_long bs v)))

-- ---- the frame of a file, by its version
module _ (bs : List ℕ) where
  pub decode-first : second bs ≡ false → decode bs ≡ frame_of (types_in bs) (manifolds_in bs) (joints_in bs) (enabled_in bs)
  unfolding decode
  decode-first v = rw v

  pub decode-second : second bs ≡ true → (decode bs).joints ≡ map (entry_in bs) (places_from bs (joints_at bs) (count_j bs))
  unfolding decode
  decode-second v = rw v (entries-joints bs (joints_at bs) (count_j bs))

  pub joints_of-counts : second bs ≡ true → (decode bs).joints ≡ counted_of (counts_in bs) (joint_ends_in bs) (live_in bs)
  unfolding decode
  joints_of-counts v = joints-counted (counts_in bs) (joint_ends_in bs) (live_in bs) (ends-second_long bs v)

-- n pairs of a file are n constraints
pairs_count : (bs : List ℕ) (s step n : ℕ) (es : List ℕ) → length (constraints_of (pairs_from bs s step n) es) ≡ n
unfolding pairs_from
pairs_count bs s step zero es = refl
pairs_count bs s step (suc n) [] = ap suc (pairs_count bs (s + step) step n [])
pairs_count bs s step (suc n) (e ∷ es) = ap suc (pairs_count bs (s + step) step n es)

pub manifolds-count : (bs : List ℕ) → length (decode bs).manifolds ≡ count_m bs
unfolding decode
manifolds-count bs = pairs_count bs (pairs_at bs) 4 (count_m bs) []

pub joints-count : (bs : List ℕ) → length (decode bs).joints ≡ count_j bs
joints-count bs = by_cases (second bs)
    (λ v. ap length (decode-second bs v) ∙ length-map (places_from bs (joints_at bs) (count_j bs)) (entry_in bs) ∙ places_long bs (joints_at bs) (count_j bs))
    (λ v. ap (λ (f : Frame). length f.joints) (decode-first bs v) ∙ pairs_count bs (joints_at bs) 5 (count_j bs) (enabled_in bs))

pub constraint-count : (bs : List ℕ) → length (constraints (decode bs)) ≡ count_m bs + count_j bs
constraint-count bs = omega (arith, length-append (decode bs).manifolds (decode bs).joints, manifolds-count bs, joints-count bs)

-- ---- the endpoints of constraint n

-- pair n of those that start at place s
module _ (bs : List ℕ) (step : ℕ) where
  next_pair : (s n : ℕ) → half bs (s + step + step * n) ∷ half bs (s + step + step * n + 2) ∷ [] ≡ half bs (s + step * suc n) ∷ half bs (s + step * suc n + 2) ∷ []
  next_pair s n =
      let e : s + step + step * n ≡ s + step * suc n = omega (arith, mul-suc step n) in
      ap (λ (p : ℕ). half bs p ∷ half bs (p + 2) ∷ []) e

  first_pair : (s : ℕ) → half bs s ∷ half bs (s + 2) ∷ [] ≡ half bs (s + step * 0) ∷ half bs (s + step * 0 + 2) ∷ []
  first_pair s =
      let e : s ≡ s + step * 0 = omega arith in
      ap (λ (p : ℕ). half bs p ∷ half bs (p + 2) ∷ []) e

  pairs_from-at : (s m : ℕ) (es : List ℕ) (n : ℕ) → n < m → (get_or (constraints_of (pairs_from bs s step m) es) n nothing).ends ≡ half bs (s + step * n) ∷ half bs (s + step * n + 2) ∷ []
  unfolding pairs_from
  pairs_from-at s zero es n h = absurd (omega arith)
  pairs_from-at s (suc m) [] zero h = first_pair s
  pairs_from-at s (suc m) (e ∷ es) zero h = first_pair s
  pairs_from-at s (suc m) [] (suc n) h = pairs_from-at (s + step) m [] n (omega arith) ∙ next_pair s n
  pairs_from-at s (suc m) (e ∷ es) (suc n) h = pairs_from-at (s + step) m es n (omega arith) ∙ next_pair s n

module _ (bs : List ℕ) (n : ℕ) where
  -- of a manifold, on either version
  pub ends_manifold : n < count_m bs → (constraint_at (decode bs) n).ends ≡ half bs (pairs_at bs + 4 * n) ∷ half bs (pairs_at bs + 4 * n + 2) ∷ []
  unfolding constraint_at decode
  ends_manifold h =
      let k : n < length (decode bs).manifolds = omega (arith, manifolds-count bs) in
      ap (λ (c : Constraint). c.ends) (get_or-append (decode bs).manifolds (decode bs).joints nothing n k) ∙ pairs_from-at bs 4 (pairs_at bs) (count_m bs) [] n h

  -- a number behind the manifolds is that of a joint
  joint_at : count_m bs ≤ n → constraint_at (decode bs) n ≡ get_or (decode bs).joints (n - count_m bs) nothing
  unfolding constraint_at
  joint_at h =
      let e : n ≡ length (decode bs).manifolds + (n - count_m bs) = omega (arith, manifolds-count bs) in
      ap (λ (m : ℕ). get_or (constraints (decode bs)) m nothing) e ∙ get_or-append-add (decode bs).manifolds (decode bs).joints (n - count_m bs) nothing

  -- of a constraint of version 1, read as a pair at its place
  pub ends-first : second bs ≡ false → n < count_m bs + count_j bs → (constraint_at (decode bs) n).ends ≡ half bs (ends_at bs n) ∷ half bs (ends_at bs n + 2) ∷ []
  ends-first v h = by_cases (ltb n (count_m bs))
      (λ t. rw t (ends_manifold (ltb-true n (count_m bs) t)))
      (λ t.
      let k : count_m bs ≤ n = ltb-false n (count_m bs) t in
      rw t (ap (λ (c : Constraint). c.ends) (joint_at k)
      ∙ ap (λ (f : Frame). (get_or f.joints (n - count_m bs) nothing).ends) (decode-first bs v)
      ∙ pairs_from-at bs 5 (joints_at bs) (count_j bs) (enabled_in bs) (n - count_m bs) (omega arith)))

  -- of a joint of version 2, as many as the entry's count says, behind that count; the entry's place is the joint's among all places
  pub ends-second : second bs ≡ true → count_m bs ≤ n → n < count_m bs + count_j bs
      → (constraint_at (decode bs) n).ends ≡ ends_in bs (get_or (places_from bs (joints_at bs) (count_j bs)) (n - count_m bs) 0)
  ends-second v k h =
      let ps = places_from bs (joints_at bs) (count_j bs) in
      ap (λ (c : Constraint). c.ends) (joint_at k)
      ∙ ap (λ (cs : List Constraint). (get_or cs (n - count_m bs) nothing).ends) (decode-second bs v)
      ∙ ap (λ (c : Constraint). c.ends) (get_or-map-lt (entry_in bs) ps (n - count_m bs) nothing 0 (omega (arith, places_long bs (joints_at bs) (count_j bs))))

-- a constraint of version 1 has two endpoints
pub two-ends : (bs : List ℕ) (n : ℕ) → second bs ≡ false → n < count_m bs + count_j bs → length (constraint_at (decode bs) n).ends ≡ 2
two-ends bs n v h = ap length (ends-first bs n v h)

-- ---- the version

pub counts_by_version : (b : Bool) → with_counts (cond b Second First) ≡ b
counts_by_version true = refl
counts_by_version false = refl

-- the version of a file that is read says whether its version byte is 2
pub second_by_version : (bs : List ℕ) (v : Version) → v ≡ version_of bs → second bs ≡ with_counts v
second_by_version bs v e = sym (counts_by_version (second bs)) ∙ ap with_counts (sym e)
