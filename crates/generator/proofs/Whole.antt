-- The parts of a lift, each written behind the one before and drawn from the state that it left, are the file of the seed.
use Rattle.std.proofs.Common.{◌≡◌, ℕ, ◌+◌, ◌*◌, ◌%◌, ◌≤◌, true, List, length, sym, ap, ◌∙◌, arith}
use Rattle.lists.specs.Basics.{over, put, range, mem}
use Rattle.lists.proofs.Laws.{map_ext_in}
use Rattle.lists.proofs.Ranges.{join_map_ext}
use Rattle.frame.specs.Questions.{few_each, pair_count}
use Rattle.frame_file.specs.Written.{file_length, half_bytes, word_bytes, header_bytes, pair_bytes, joint_bytes, Writable}
use Rattle.frame_file.proofs.Decoded.{pair_bytes_long}
use Rattle.writer.specs.declared.Writer.{Writer}
use Rattle.writer.specs.Wrote.{Wrote}
use Rattle.frame_file.proofs.Whole.{file-put}
use Rattle.generator.specs.Draws.{state_after, draw, pair_drawn, types_drawn, pairs_drawn, enabled_drawn, generated_bytes}
use Rattle.generator.proofs.Draws.{steps_then, draw_then, pair_shift, types_long, pairs_long, enabled_long}

-- ---- draws from draw k on are draws from the state after k steps

pairs_shift : (b k d n s : ℕ) → pairs_drawn b k d n s ≡ pairs_drawn b 0 d n (state_after k s)
unfolding pairs_drawn
pairs_shift b k d n s = join_map_ext (λ i. pair_drawn b (k + d * i) s) (λ i. pair_drawn b (0 + d * i) (state_after k s)) (range n) each
  where
    each : (i : ℕ) → pair_drawn b (k + d * i) s ≡ pair_drawn b (0 + d * i) (state_after k s)
    each i = let e : 0 + d * i ≡ d * i = omega arith in pair_shift b k (d * i) s ∙ ap (λ (n : ℕ). pair_drawn b n (state_after k s)) (sym e)

enabled_shift : (k n s : ℕ) → enabled_drawn k n s ≡ enabled_drawn 0 n (state_after k s)
unfolding enabled_drawn
enabled_shift k n s = map_ext_in (λ i. draw (k + 3 * i + 2) s % 2) (λ i. draw (0 + 3 * i + 2) (state_after k s) % 2) (range n) each
  where
    each : (i : ℕ) → mem i (range n) ≡ true → draw (k + 3 * i + 2) s % 2 ≡ draw (0 + 3 * i + 2) (state_after k s) % 2
    each i h = let e : k + 3 * i + 2 ≡ k + (0 + 3 * i + 2) = omega arith in ap (λ (n : ℕ). n % 2) (ap (λ (n : ℕ). draw n s) e ∙ draw_then k (0 + 3 * i + 2) s)

-- ---- the parts of the file, and how many there are

module _ (seed b m j : ℕ) where
  abbrev pub types : List ℕ
  types = types_drawn b seed

  abbrev pub manifolds : List ℕ
  manifolds = pairs_drawn b b 2 m seed

  abbrev pub joints : List ℕ
  joints = pairs_drawn b (b + 2 * m) 3 j seed

  abbrev pub enabled : List ℕ
  enabled = enabled_drawn (b + 2 * m) j seed

  pub count_b_lem : length types ≡ b
  count_b_lem = types_long b seed

  pub count_m_lem : pair_count manifolds ≡ m
  count_m_lem = omega (arith, pairs_long b b 2 m seed)

  pub count_j_lem : length enabled ≡ j
  count_j_lem = enabled_long (b + 2 * m) j seed

  pub writable : few_each b m j ≡ true → Writable types manifolds joints enabled
  writable few = record {
    few = rw (count_b_lem, count_m_lem, count_j_lem) few;
    even_manifolds = omega (arith, pairs_long b b 2 m seed);
    even_joints = omega (arith, pairs_long b (b + 2 * m) 3 j seed, count_j_lem);
  }

  -- ---- written one behind another, from place 0 on
  module _ (few : few_each b m j ≡ true) (w₀ w₁ w₂ w₃ w₄ : Writer) (t u : ℕ) (start : w₀.at ≡ 0) (h : file_length b m j ≤ length w₀.out.now) (e₁ : Wrote (header_bytes b m j) w₀ w₁) (e₂ : Wrote types w₁ w₂) (et : t ≡ state_after b seed)
      (e₃ : Wrote (pair_bytes (pairs_drawn b 0 2 m t)) w₂ w₃) (eu : u ≡ state_after (2 * m) t) (e₄ : Wrote (joint_bytes (pairs_drawn b 0 3 j u) (enabled_drawn 0 j u)) w₃ w₄) where
    at₁ : w₁.at ≡ 11
    unfolding header_bytes word_bytes half_bytes
    at₁ = omega (arith, start, e₁.next)

    at₂ : w₂.at ≡ 11 + b
    at₂ = omega (arith, at₁, e₂.next, count_b_lem)

    at₃ : w₃.at ≡ 11 + b + 4 * m
    at₃ = omega (arith, at₂, e₃.next, pair_bytes_long (pairs_drawn b 0 2 m t), pairs_long b 0 2 m t)

    pub whole_put : w₄.out.now ≡ over (generated_bytes seed b m j) w₀.out.now
    unfolding generated_bytes
    whole_put =
        let v : u ≡ state_after (b + 2 * m) seed = eu ∙ ap (state_after (2 * m)) et ∙ sym (steps_then b (2 * m) seed) in
        let hs : w₁.out.now ≡ put 0 (header_bytes b m j) w₀.out.now = rw start at e₁.bytes in
        let ts : w₂.out.now ≡ put 11 types w₁.out.now = rw at₁ at e₂.bytes in
        let ps : pairs_drawn b 0 2 m t ≡ manifolds = ap (pairs_drawn b 0 2 m) et ∙ sym (pairs_shift b b 2 m seed) in
        let ms : w₃.out.now ≡ put (11 + b) (pair_bytes manifolds) w₂.out.now = rw (at₂, ps) at e₃.bytes in
        let qs : pairs_drawn b 0 3 j u ≡ joints = ap (pairs_drawn b 0 3 j) v ∙ sym (pairs_shift b (b + 2 * m) 3 j seed) in
        let es : enabled_drawn 0 j u ≡ enabled = ap (enabled_drawn 0 j) v ∙ sym (enabled_shift (b + 2 * m) j seed) in
        let js : w₄.out.now ≡ put (11 + b + 4 * m) (joint_bytes joints enabled) w₃.out.now = rw (at₃, qs, es) at e₄.bytes in
        file-put types manifolds joints enabled (writable few) w₀.out.now w₁.out.now w₂.out.now w₃.out.now w₄.out.now
        (rw (count_b_lem, count_m_lem, count_j_lem) h) (rw (count_b_lem, count_m_lem, count_j_lem) hs) ts (rw count_b_lem ms) (rw (count_b_lem, count_m_lem) js)
