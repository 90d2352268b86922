-- Reading a written frame gives the frame back, and its file passes every question. Each part of the file stands right behind the one
-- before, so what stands at the place where reading looks for a part is that part and then the rest. There a number of 16 bits is read
-- back since n / 256 * 256 + n % 256 is n, and pairs and joints are read back one after another.
use Rattle.std.proofs.Common.{ℕ, zero, suc, ◌+◌, ◌-◌, ◌*◌, ◌/◌, ◌%◌, ◌≡◌, refl, sym, ap, ◌∙◌, true, false, ◌&&◌, ◌||◌, List, [], ◌∷◌, ◌++◌, arith, leb, ltb, eqb, length, take, drop, length-append, get_or-drop, drop-drop, take_at, drop_at, lt-ltb, le-leb, eq-eqb}
use Rattle.frame.specs.Frames.{frame_of, all_sound}
use Rattle.frame.specs.Questions.{few_each, pair_count, types_known, bits}
use Rattle.frame.specs.Files.{byte, half, word, count_b, count_m, count_j, pairs_at, joints_at, pairs_from, enabled_from, types_in, manifolds_in, joints_in, enabled_in, second, decode, frame_refusal}
use Rattle.frame.proofs.Files.{decode-first}
use Rattle.frame_file.specs.Written.{half_bytes, word_bytes, file_length, header_bytes, pair_bytes, joint_bytes, file_of, Writable}

-- ---- numbers, at a place s of a file bs
byte_at : (bs : List ℕ) (s x : ℕ) (rest : List ℕ) → drop s bs ≡ x ∷ rest → byte bs s ≡ x
byte_at bs s x rest e =
    let here : s ≡ s + 0 = omega arith in
    ap (byte bs) here ∙ sym (get_or-drop s bs 0 0) ∙ ap (λ (l : List ℕ). byte l 0) e

-- behind a part of k bytes stands the rest
behind : (bs : List ℕ) (s : ℕ) (part rest : List ℕ) (k : ℕ) → length part ≡ k → drop s bs ≡ part ++ rest → drop (s + k) bs ≡ rest
behind bs s part rest k long e = sym (drop-drop k s bs) ∙ ap (drop k) e ∙ drop_at part rest k long

half_at : (bs : List ℕ) (s n : ℕ) (rest : List ℕ) → drop s bs ≡ half_bytes n ++ rest → half bs s ≡ n
unfolding half half_bytes
half_at bs s n rest e =
    let upper : byte bs s ≡ n / 256 = byte_at bs s (n / 256) (n % 256 ∷ rest) e in
    let lower : byte bs (s + 1) ≡ n % 256 = byte_at bs (s + 1) (n % 256) rest (behind bs s (n / 256 ∷ []) (n % 256 ∷ rest) 1 refl e) in
    omega arith

word_at : (bs : List ℕ) (s n : ℕ) (rest : List ℕ) → drop s bs ≡ word_bytes n ++ rest → word bs s ≡ n
unfolding word word_bytes half_bytes
word_at bs s n rest e =
    let more = half_bytes (n % 65536) ++ rest in
    let upper : half bs s ≡ n / 65536 = half_at bs s (n / 65536) more e in
    let lower : half bs (s + 2) ≡ n % 65536 = half_at bs (s + 2) (n % 65536) rest (behind bs s (half_bytes (n / 65536)) more 2 refl e) in
    omega arith

-- ---- pairs and joints
module _ (bs : List ℕ) (s a b : ℕ) (rest : List ℕ) (e : drop s bs ≡ pair_bytes (a ∷ b ∷ []) ++ rest) where
  first-at : half bs s ≡ a
  unfolding half_bytes
  first-at = half_at bs s a (half_bytes b ++ rest) e

  second_at : half bs (s + 2) ≡ b
  unfolding half_bytes
  second_at = half_at bs (s + 2) b rest (behind bs s (half_bytes a) (half_bytes b ++ rest) 2 refl e)

  after_pair : drop (s + 4) bs ≡ rest
  unfolding half_bytes
  after_pair = behind bs s (pair_bytes (a ∷ b ∷ [])) rest 4 refl e

pairs_read : (bs : List ℕ) (s n : ℕ) (ps rest : List ℕ) → length ps ≡ 2 * n → drop s bs ≡ pair_bytes ps ++ rest → pairs_from bs s 4 n ≡ ps
unfolding pairs_from half_bytes
pairs_read bs s zero [] rest h e = refl
pairs_read bs s zero (a ∷ ps) rest h e = absurd (omega arith)
pairs_read bs s (suc n) [] rest h e = absurd (omega arith)
pairs_read bs s (suc n) (a ∷ []) rest h e = absurd (omega arith)
pairs_read bs s (suc n) (a ∷ b ∷ ps) rest h e =
    let more = pair_bytes ps ++ rest in
    rw (first-at bs s a b more e, second_at bs s a b more e, pairs_read bs (s + 4) n ps rest (omega arith) (after_pair bs s a b more e))

joints-read : (bs : List ℕ) (s : ℕ) (js es : List ℕ) → length js ≡ 2 * length es → drop s bs ≡ joint_bytes js es → (pairs_from bs s 5 (length es) ≡ js) × (enabled_from bs s (length es) ≡ es)
unfolding pairs_from enabled_from half_bytes
joints-read bs s [] [] h e = (refl, refl)
joints-read bs s [] (x ∷ es) h e = absurd (omega arith)
joints-read bs s (a ∷ []) es h e = absurd (omega arith)
joints-read bs s (a ∷ b ∷ js) [] h e = absurd (omega arith)
joints-read bs s (a ∷ b ∷ js) (x ∷ es) h e =
    let more = joint_bytes js es in
    let enabled = byte_at bs (s + 4) x more (after_pair bs s a b (x ∷ more) e) in
    let others = joints-read bs (s + 5) js es (omega arith) (behind bs s (pair_bytes (a ∷ b ∷ []) ++ (x ∷ [])) more 5 refl e) in
    (rw (first-at bs s a b (x ∷ more) e, second_at bs s a b (x ∷ more) e, others.0), rw (enabled, others.1))

pub pair_bytes_long : (ps : List ℕ) → length (pair_bytes ps) ≡ 2 * length ps
unfolding half_bytes
pair_bytes_long [] = refl
pair_bytes_long (a ∷ ps) = omega (arith, pair_bytes_long ps)

pub joint_bytes_long : (js es : List ℕ) → length js ≡ 2 * length es → length (joint_bytes js es) ≡ 5 * length es
unfolding half_bytes
joint_bytes_long [] [] h = refl
joint_bytes_long [] (x ∷ es) h = absurd (omega arith)
joint_bytes_long (a ∷ []) es h = absurd (omega arith)
joint_bytes_long (a ∷ b ∷ js) [] h = absurd (omega arith)
joint_bytes_long (a ∷ b ∷ js) (x ∷ es) h = omega (arith, joint_bytes_long js es (omega arith))

-- ---- the file
module _ (ts ps js es : List ℕ) where
  abbrev file : List ℕ
  file = file_of ts ps js es

  -- its header
  version_read : byte file 0 ≡ 1
  unfolding file_of header_bytes
  version_read = refl

  first-read : second file ≡ false
  first-read = rw version_read

  length-read : word file 1 ≡ 6 + length ts + 4 * pair_count ps + 5 * length es
  unfolding file_of header_bytes word_bytes half_bytes
  length-read = word_at file 1 (6 + length ts + 4 * pair_count ps + 5 * length es) _ refl

  count_b-read : count_b file ≡ length ts
  unfolding file_of header_bytes word_bytes half_bytes
  count_b-read = half_at file 5 (length ts) _ refl

  count_m-read : count_m file ≡ pair_count ps
  unfolding file_of header_bytes word_bytes half_bytes
  count_m-read = half_at file 7 (pair_count ps) _ refl

  count_j-read : count_j file ≡ length es
  unfolding file_of header_bytes word_bytes half_bytes
  count_j-read = half_at file 9 (length es) _ refl

  after-header : drop 11 file ≡ ts ++ (pair_bytes ps ++ joint_bytes js es)
  unfolding file_of header_bytes word_bytes half_bytes
  after-header = refl

  -- its types, manifolds and joints
  types-read : types_in file ≡ ts
  types-read = ap (take (count_b file)) after-header ∙ take_at ts (pair_bytes ps ++ joint_bytes js es) (count_b file) (sym count_b-read)

  after-types : drop (pairs_at file) file ≡ pair_bytes ps ++ joint_bytes js es
  after-types = behind file 11 ts (pair_bytes ps ++ joint_bytes js es) (count_b file) (sym count_b-read) after-header

  module _ (w : Writable ts ps js es) where
    manifolds-read : manifolds_in file ≡ ps
    manifolds-read = pairs_read file (pairs_at file) (count_m file) ps (joint_bytes js es) (omega (arith, count_m-read)) after-types

    after-manifolds : drop (joints_at file) file ≡ joint_bytes js es
    after-manifolds = behind file (pairs_at file) (pair_bytes ps) (joint_bytes js es) (4 * count_m file) (omega (arith, pair_bytes_long ps, count_m-read)) after-types

    joint_parts : (joints_in file ≡ js) × (enabled_in file ≡ es)
    joint_parts = rw count_j-read (joints-read file (joints_at file) js es w.even_joints after-manifolds)

    -- how long the file is, the frame that it holds, and that it passes the questions
    pub file_long : length (file_of ts ps js es) ≡ file_length (length ts) (pair_count ps) (length es)
    unfolding file_of header_bytes word_bytes half_bytes
    file_long =
        omega (
          arith,
          length-append ts (pair_bytes ps ++ joint_bytes js es),
          length-append (pair_bytes ps) (joint_bytes js es),
          pair_bytes_long ps,
          joint_bytes_long js es w.even_joints,
        )

    pub written_decoded : decode (file_of ts ps js es) ≡ frame_of ts ps js es
    written_decoded = decode-first file first-read ∙ rw (types-read, manifolds-read, joint_parts.0, joint_parts.1)

    pub written-passes : types_known ts ≡ true → bits es ≡ true → all_sound (frame_of ts ps js es) ≡ true → frame_refusal (file_of ts ps js es) ≡ 0
    unfolding frame_refusal
    written-passes known enabled sound = rw (first-read, q1, q2, q3, q4, q5, q7)
      where
        q1 : (ltb 0 (length file) && (eqb (byte file 0) 1 || false)) ≡ true
        q1 =
            let some = lt-ltb 0 (length file) (omega (arith, file_long)) in
            let one = eq-eqb (byte file 0) 1 version_read in
            rw (some, one)

        q2 : (leb 11 (length file) && eqb (word file 1) (length file - 5)) ≡ true
        q2 =
            let long = le-leb 11 (length file) (omega (arith, file_long)) in
            let right = eq-eqb (word file 1) (length file - 5) (omega (arith, file_long, length-read)) in
            rw (long, right)

        q3 : few_each (count_b file) (count_m file) (count_j file) ≡ true
        q3 = rw (count_b-read, count_m-read, count_j-read) w.few

        q4 : eqb (word file 1) (6 + count_b file + 4 * count_m file + 5 * count_j file) ≡ true
        q4 = eq-eqb (word file 1) (6 + count_b file + 4 * count_m file + 5 * count_j file) (omega (arith, length-read, count_b-read, count_m-read, count_j-read))

        q5 : (types_known (types_in file) && bits (enabled_in file)) ≡ true
        q5 = rw (types-read, joint_parts.1, known, enabled)

        q7 : all_sound (decode file) ≡ true
        q7 = rw written_decoded sound
